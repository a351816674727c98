use Rattle.std.proofs.Common.{◌≡◌, ◌∙◌, ℕ, ◌+◌, ◌++◌, [], ◌∷◌, List, sym, ap, subst}
use Rattle.std.proofs.Math.ListN.{take}
use Rattle.std.specs.Prelude.{slice_index}
use Rattle.machine.specs.MachineValue.{MachineValue}
use Rattle.seed_verdicts.specs.ScheduleSpace.Spaces.{world_of}
use Rattle.space_ends.specs.EndsOfSpace.{missed_in}
use Rattle.space_ends.specs.Shown.{earlier, IsFirstMissedBy}
use Rattle.space_ends.proofs.Shown.{missed_by_more, take_more}
use Rattle.space_ends.proofs.going.WorldSet.over.Goals as goal

pub loop-place-preserved : goal.loop-place-preserved
loop-place-preserved g c =
    let v = c.args.space.now in
    let expected = c.args.expected.now in
    let places = c.args.places.now in
    let index = c.loop-place.place-index in
    let place = slice_index places index in
    let known = c.loop-place.known.missed in
    let now = c.add.ensures ∙ ap (λ (m : MachineValue). earlier known (missed_in m.world expected)) c.in_ok-world.ensures in
    let one : take (index + 1) places ≡ take index places ++ place ∷ [] =
    take_more places index c.loop-place-test.true in
    rw now (subst (λ (ks : List ℕ). IsFirstMissedBy v expected ks (earlier known (missed_in (world_of v place) expected)))
    (sym one) (missed_by_more v expected (take index places) place known c.loop-place.invariant))
