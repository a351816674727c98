use Rattle.std.proofs.Common.{◌≡◌, ◌+◌, ◌<◌, ◌++◌, length, take, drop, sym, subst, rules}
use Rattle.std.proofs.lemmas.List.{take_at}
use Rattle.starving_streams.specs.Graphs.{AreTargets}
use Rattle.starving_streams.proofs.Leading.{targets_next, targets_none}
use Rattle.starving_streams.proofs.targets.targets_of.Goals as goal

pub loop-edge-init : goal.loop-edge-init
loop-edge-init c = targets_none c.args.count c.args.who c.in_ok-targets.targets.items c.in_ok-targets.ensures

pub loop-edge-preserved : goal.loop-edge-preserved
loop-edge-preserved c =
    let edges = c.args.edges.now in
    let i = c.loop-edge.edge-index in
    let t = c.args.who in
    let old = c.deref_mut.result.now in
    let new = c.follow_edge.new.targets in
    let rest = drop (length new) c.loop-edge.targets.items in
    let below : i < length edges = search rules in
    let value : old ≡ c.loop-edge.targets.items = search rules in
    let many : length new ≡ length old = search rules in
    let len : length new ≡ c.loop-edge.targets.len = search rules in
    let same : take c.loop-edge.targets.len (new ++ rest) ≡ new = take_at new rest c.loop-edge.targets.len len in
    subst (AreTargets c.args.count (take (i + 1) edges) t) (sym same)
    (targets_next c.args.count i edges t old new _ below
    (subst (AreTargets c.args.count (take i edges) t) (sym value) c.loop-edge.invariant) many c.follow_edge.ensures)
