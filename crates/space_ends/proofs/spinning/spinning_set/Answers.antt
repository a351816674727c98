use Rattle.std.proofs.Common.{◌≡◌, ◌∙◌, ◌<◌, ℕ, List, Option, length, ap, sym, subst, rules}
use Rattle.std.specs.Prelude.{◌↔◌, IsFalse, not, slice_index}
use Rattle.processor.specs.World.{World}
use Rattle.machine.specs.MachineValue.{MachineValue}
use Rattle.seed_verdicts.specs.ScheduleSpace.Spaces.{world_of}
use Rattle.seed_verdicts.specs.ScheduleVerdicts.RightEnds.{AreTrapsExpected}
use Rattle.end_states.specs.EndStates.{trap_stops}
use Rattle.end_states.specs.declared.states.EndState.{EndState}
use Rattle.space_ends.specs.Shown.{IsFirstMissedBy}
use Rattle.space_ends.proofs.Shown.{flipped}
use Rattle.space_ends.proofs.spinning.spinning_set.Goals as goal

pub returns-clause-set : goal.returns-clause-set
returns-clause-set g c = λ more.
    let v = c.args.space.now in
    let expected = c.args.expected.now in
    let places = c.args.places.now in
    let listed = c.in_ok-end-4.field-0.items in
    let items : listed ≡ places = search rules in
    let world : c.in_ok-machine.machine.world ≡ world_of v (slice_index places 0) =
    ap (λ (m : MachineValue). m.world) c.in_ok-machine.ensures
    ∙ ap (λ (k : ℕ). world_of v k) (c.first_of-first.ensures more) in
    let here : c.in_ok-machine.machine.world ≡ world_of v (slice_index listed 0) =
    world ∙ sym (ap (λ (ks : List ℕ). world_of v (slice_index ks 0)) items) in
    let unexpected = not c.are_traps_expected.result in
    record {
      kind = c.in_ok-end.ensures.kind ∙ c.spinning_kind.ensures.is;
      some = subst (λ (ks : List ℕ). 0 < length ks) (sym items) more;
      stopped =
          ap (λ (s : EndState). s.stopped.items) c.in_ok-end.ensures.state ∙ c.in_ok-trap_stops.ensures
          ∙ ap trap_stops here;
      traps =
          subst (λ (w : World). IsFalse unexpected ↔ AreTrapsExpected expected w) here
          (flipped c.are_traps_expected.result (AreTrapsExpected expected c.in_ok-machine.machine.world)
          c.are_traps_expected.ensures);
      missed = λ must_end.
          subst (λ (o : Option ℕ). IsFirstMissedBy v expected listed o) (sym (c.missed_by-end.ensures.must_end must_end))
          (subst (λ (ks : List ℕ). IsFirstMissedBy v expected ks c.in_ok-known.known.missed) (sym items)
          c.in_ok-known.ensures);
      allowed = c.missed_by-end.ensures.allowed;
    }
