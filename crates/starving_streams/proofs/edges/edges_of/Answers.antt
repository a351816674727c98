use Rattle.std.proofs.Common.{◌≡◌, ◌+◌, ◌++◌, ℕ, rules, sym, subst, map, filter, slice_index_or, List, []}
use Rattle.processor.specs.declared.steps.Step.{Step}
use Rattle.schedule_space.specs.declared.links.Edge as link
use Rattle.schedule_space.specs.Spaces.{count}
use Rattle.fair_rounds.specs.declared.graphs.Edge.{Edge}
use Rattle.fair_rounds.specs.Classes.{stands}
use Rattle.starving_streams.specs.Graphs.{AreTargets, AreEdges, edge_by}
use Rattle.starving_streams.proofs.StepEdges.{no_edges, more_edges}
use Rattle.starving_streams.proofs.edges.edges_of.Goals as goal

pub loop-number-init : goal.loop-number-init
loop-number-init c = λ plain.
    let v = c.args.space.now in
    let standings = c.args.standings.now in
    let streams = c.args.streams.now in
    let none : c.new-edges.result.items ≡ [] = search rules in
    subst (λ (es : List Edge). AreEdges v standings streams 0 es) (sym none)
    (no_edges v plain c.len-count.ensures.links standings c.requires streams)

pub loop-number-preserved : goal.loop-number-preserved
loop-number-preserved c = λ plain.
    let v = c.args.space.now in
    let standings = c.args.standings.now in
    let streams = c.args.streams.now in
    let n = c.loop-number.number in
    let none : Step = record { p = 0; s = 0 } in
    let who = slice_index_or streams n none in
    let targets = c.in_ok-targets.targets.items in
    let old = c.loop-number.edges.items in
    let new = c.extend_from_slice.new.self.items in
    let aims : AreTargets (count v) v.edges who targets =
    subst (λ (k : ℕ). AreTargets k v.edges who targets) c.len-count.ensures.count
    (subst (λ (ls : List link.Edge). AreTargets c.len-count.result ls who targets) c.edges-links.ensures.edges
    c.in_ok-targets.ensures) in
    let same : new ≡ old ++ map (edge_by targets) (filter (stands who) standings) = search rules in
    subst (AreEdges v standings streams (n + 1)) (sym same)
    (more_edges v plain c.len-count.ensures.links standings c.requires streams n none targets old (search rules) aims
    (c.loop-number.invariant plain))

pub returns : goal.returns
returns c = λ plain.
    subst (λ (k : ℕ). AreEdges c.args.space.now c.args.standings.now c.args.streams.now k c.loop-number.edges.items)
    (search rules) (c.loop-number.invariant plain)
