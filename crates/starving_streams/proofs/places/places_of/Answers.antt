use Rattle.std.proofs.Common.{◌≡◌, ◌+◌, ◌<◌, ◌++◌, length, take, drop, sym, subst, rules}
use Rattle.std.proofs.lemmas.List.{take_at}
use Rattle.starving_streams.specs.Graphs.{AreMarksBy}
use Rattle.starving_streams.proofs.Marks.{marks_next, marks_none}
use Rattle.starving_streams.proofs.places.places_of.Goals as goal

pub loop-standing-init : goal.loop-standing-init
loop-standing-init c = marks_none c.args.count c.args.who c.in_ok-marks.marks.items (search rules)

pub loop-standing-preserved : goal.loop-standing-preserved
loop-standing-preserved c =
    let standings = c.args.standings.now in
    let i = c.loop-standing.standing-index in
    let t = c.args.who in
    let old = c.deref_mut.result.now in
    let new = c.mark_standing.new.marks in
    let rest = drop (length new) c.loop-standing.marks.items in
    let below : i < length standings = search rules in
    let value : old ≡ c.loop-standing.marks.items = search rules in
    let many : length new ≡ length old = search rules in
    let len : length new ≡ c.loop-standing.marks.len = search rules in
    let same : take c.loop-standing.marks.len (new ++ rest) ≡ new = take_at new rest c.loop-standing.marks.len len in
    subst (AreMarksBy (take (i + 1) standings) c.args.count t) (sym same)
    (marks_next c.args.count i standings t old new _ below
    (subst (AreMarksBy (take i standings) c.args.count t) (sym value) c.loop-standing.invariant) many
    c.mark_standing.ensures)
