-- The first stream that loops from a world, and the first world.
use Rattle.std.proofs.Common.{◌≡◌, ◌⊎◌, ◌↔◌, inl, inr, ℕ, ◌+◌, ◌<◌, ◌≤◌, refl, sym, ap, ◌∙◌, subst, arith}
use Rattle.std.proofs.Common.{Bool, true, false, Some, List, length, slice_get, slice_index_or, Contains}
use Rattle.std.specs.Prelude.{IsTrue}
use Rattle.std.proofs.lemmas.Bool.{cases_lt}
use Rattle.std.proofs.lemmas.Option.{same_Some, slice_get_read}
use Rattle.processor.specs.World.{World}
use Rattle.processor.specs.declared.steps.Step.{Step}
use Rattle.machine.specs.MachineValue.{MachineValue}
use Rattle.waiting.specs.Running.{runs_in, running_steps, AreRunning}
use Rattle.waiting.specs.Stuck.{IsStuck}
use Rattle.schedule_space.specs.Spaces.{SpaceValue, count, schedule_of, world_of, machine_after, HasEarlierLinks}
use Rattle.busy_streams.specs.declared.busy_worlds.Busy.{Busy}
use Rattle.busy_streams.specs.Busy.{IsShortestCycle}
use Rattle.busy_streams.specs.BusySpaces.{HasAllWorlds, HasNoneBusy, IsFirstBusy}
use Rattle.busy_streams.specs.OwnCycles.{ComesBack, IsFreeCycle, IsFirstCycle}
use Rattle.busy_streams.proofs.Cycles.{busy-cycle, cycle-busy}

module _ (v : SpaceValue) (k : ℕ) (m : MachineValue) (ts : List Step) (is : m ≡ machine_after v.image (schedule_of v k))
    (runs : ts ≡ running_steps m.world) (all : AreRunning m.world ts) where
  at_world : m.world ≡ world_of v k
  at_world = ap (λ (x : MachineValue). x.world) is

  -- the stream at this place of the list is the first
  pub first_is : (n : ℕ) (t : Step) (stuck : Bool) → n < length ts → t ≡ slice_index_or ts n t
      → (IsTrue stuck ↔ IsStuck m.image m.world t) → stuck ≡ false → ComesBack v k t
      → ((i : ℕ) (u : Step) → i < n → slice_get ts i ≡ Some u → ¬ (IsFreeCycle v k u)) → IsFirstCycle v k t
  first_is n t stuck below at told off back before = record {
    cycle = record {
      runs = subst (λ (w : World). IsTrue (runs_in w t)) at_world ((all t).0 (n, below, sym at));
      free = λ s. let yes = told.1 (subst (λ (x : MachineValue). IsStuck x.image x.world t) (sym is) s) in
          let no : ⊥ = cc in
          no;
      back = back;
    };
    index = n;
    at =
        ap (λ xs. slice_get xs n) (sym (runs ∙ ap running_steps at_world))
        ∙ slice_get_read ts (length ts) n t refl below at;
    before = λ i u less there.
        before i u less (ap (λ xs. slice_get xs i) (runs ∙ ap running_steps at_world) ∙ there);
  }

  -- one more that is not
  pub none_more : (n : ℕ) (t : Step) → n < length ts → t ≡ slice_index_or ts n t → ¬ (IsFreeCycle v k t)
      → ((i : ℕ) (u : Step) → i < n → slice_get ts i ≡ Some u → ¬ (IsFreeCycle v k u))
      → (i : ℕ) (u : Step) → i < n + 1 → slice_get ts i ≡ Some u → ¬ (IsFreeCycle v k u)
  none_more n t below at not before i u within there = elim (cases_lt i n) [
    | inl less ↦ before i u less there
    | inr most ↦
        let here : n ≡ i = omega (arith, within, most) in
        let this : t ≡ u =
        same_Some t u (sym (slice_get_read ts (length ts) n t refl below at) ∙ ap (slice_get ts) here ∙ there) in
        subst (λ x. ¬ (IsFreeCycle v k x)) this not
  ]

  -- a stuck stream does not loop
  pub stuck_not : (t : Step) (stuck : Bool) → (IsTrue stuck ↔ IsStuck m.image m.world t) → stuck ≡ true
      → ¬ (IsFreeCycle v k t)
  stuck_not t stuck told holds cycle =
      cycle.free (subst (λ (x : MachineValue). IsStuck x.image x.world t) is (told.0 holds))

  -- none does that is in the list, and no other runs
  pub none_of : (n : ℕ) → length ts ≤ n
      → ((i : ℕ) (u : Step) → i < n → slice_get ts i ≡ Some u → ¬ (IsFreeCycle v k u))
      → (t : Step) → ¬ (IsFreeCycle v k t)
  none_of n most before t cycle =
      let there = (all t).1 (subst (λ (w : World). IsTrue (runs_in w t)) (sym at_world) cycle.runs) in
      let below = there.1 in
      before there.0 t (omega (arith, below, most))
      (slice_get_read ts (length ts) there.0 t refl below (sym there.2)) cycle

-- a stream that does not come back does not loop
pub away_not : (v : SpaceValue) (k : ℕ) (t : Step) (b : Bool) → (IsTrue b ↔ ComesBack v k t) → b ≡ false
    → ¬ (IsFreeCycle v k t)
away_not v k t b told fails cycle =
    let yes = told.1 cycle.back in
    let off : ⊥ = cc in
    off

-- Of a space.

pub first_busy_is : (v : SpaceValue) (b : Busy) → HasAllWorlds v → HasEarlierLinks v → b.place < count v
    → IsFirstCycle v b.place b.stream → IsShortestCycle v.image (world_of v b.place) b.stream b.steps
    → ((k : ℕ) → k < b.place → (t : Step) → ¬ (IsFreeCycle v k t)) → IsFirstBusy v b
first_busy_is v b plain earlier there first cycle before = record {
  there = there;
  busy = busy-cycle v plain earlier b.stream b.place there first.cycle;
  cycle = cycle;
  earlier = λ k less t busy. before k less t (cycle-busy v plain earlier t k (omega (arith, less, there)) busy);
  index = first.index;
  at = first.at;
  before = λ i t less here busy. first.before i t less here (cycle-busy v plain earlier t b.place there busy);
}

pub none_busy_is : (v : SpaceValue) → HasAllWorlds v → HasEarlierLinks v
    → ((k : ℕ) → k < count v → (t : Step) → ¬ (IsFreeCycle v k t)) → HasNoneBusy v
none_busy_is v plain earlier none k below t busy = none k below t (cycle-busy v plain earlier t k below busy)
