-- Steps of a set that are taken together, and all where they do not lead on.
use Rattle.std.proofs.Common.{◌≡◌, ℕ, ◌<◌, inl, inr, refl, sym, subst, arith, List, Bool, true, false, ◌||◌, ◌&&◌}
use Rattle.std.specs.Prelude.{Result, Ok, Err, OnOk, IsTrue}
use Rattle.std.specs.List.{Contains}
use Rattle.machine.specs.MachineValue.{MachineValue}
use Rattle.processor.specs.World.{World}
use Rattle.processor.specs.declared.steps.Step.{Step}
use Rattle.image_file.specs.ImageValue.{ImageValue}
use Rattle.waiting.specs.Running.{runs_in}
use Rattle.touched_words.specs.TouchTables.{TouchValue}
use Rattle.agreeing_ends.specs.SameFutures.Handlers.{may_have_handlers}
use Rattle.world_keys.specs.DeadRegisters.Clearing.{LiveValue}
use Rattle.first_sets.specs.ApartSets.{IsApartSet}
use Rattle.first_sets.proofs.Apart.{first_apart}
use Rattle.first_sets.proofs.Resting as rest
use Rattle.schedule_space.specs.Spaces.{SpaceValue, count, schedule_of, world_of, machine_after}
use Rattle.schedule_space.specs.Finding.{IsGrown, IsTaken, IsTakenTo, IsExpanded, HasRunning}
use Rattle.schedule_space.specs.Followed.{IsTakenTogether}
use Rattle.schedule_space.specs.Quiet.{IsUnseen, IsTakenQuietly, IsFollowedQuietly, IsSomeTakenLater}
use Rattle.schedule_space.specs.Tables.{AreTablesOf}
use Rattle.schedule_space.specs.Chosen.{is_in, steps_in, steps_out}
use Rattle.schedule_space.proofs.Agreeing.{Named, Live, Asked, ground}
use Rattle.schedule_space.proofs.Chosen.{is_kept, kept_is, found_in, in_or_out, in_set}
use Rattle.schedule_space.proofs.Growing.{world_grown, taken_grown, taken_still}
use Rattle.schedule_space.proofs.UnseenSets.{unseen_after}
use Rattle.schedule_space.proofs.Taking.{AreAllTaken, IsTakenOrWaits, all_taken, machine_grown}

-- a step of a set that is apart is one of a stream that runs
member_runs : (image : ImageValue) (tables : List TouchValue) (w : World) (set : List Step)
    → IsApartSet image tables w set → (t : Step) → Contains set t → IsTrue (runs_in w t)
member_runs image tables w set a t there =
    let m = a.members t there in rest.runs image w t m.stream _ m.makes

-- Steps from the world at a place, of which some were taken and the others wait.
module _ (v w : SpaceValue) (from : ℕ) (g : IsGrown v w) (below : from < count v) (running others : List Step)
    (runs : HasRunning (world_of v from) running)
    (waits : (t : Step) → Contains running t → IsTakenOrWaits v from others t) where
  then_taken : (t : Step) → (Contains others t → IsTaken w from t) → IsTakenOrWaits v from others t → IsTaken w from t
  then_taken t waited (inl taken) = taken_grown v w from t g below taken
  then_taken t waited (inr there) = waited there

  -- where the others are taken, each step is
  pub all_by_others : AreAllTaken w from others → IsExpanded w from
  all_by_others all =
      (all_taken w from running (omega (arith, below, g.more))
      (subst (λ (x : World). HasRunning x running) (sym (world_grown v w from g below)) runs)
      (λ t there. then_taken t (all t) (waits t there)))

  -- Of a set that is apart in the machine at the place.
  module _ (m : MachineValue) (tables : List TouchValue) (set : List Step)
      (is : m ≡ machine_after v.image (schedule_of v from)) (of : AreTablesOf v.image v.live tables)
      (apart : IsApartSet m.image tables m.world set) where
    abbrev here : World
    here = world_of w from

    within : from < count w
    within = omega (arith, below, g.more)

    still : AreTablesOf w.image w.live tables
    still =
        subst (λ (l : LiveValue). AreTablesOf w.image l tables) (sym g.live)
        (subst (λ (i : ImageValue). AreTablesOf i v.live tables) (sym g.image) of)

    apart_here : IsApartSet w.image tables here set
    apart_here =
        subst (λ (x : MachineValue). IsApartSet x.image tables x.world set) (machine_grown v w from m g below is) apart

    -- where those of the others are taken that are of the set, its steps are
    pub by_set : AreAllTaken w from (steps_in set others) → IsTakenTogether w from
    by_set taken =
        record {
          set = set;
          first =
              first_apart (IsTrue (may_have_handlers w.image)) (Named w.live) (Live w.live) (Asked w.live) w.image tables here
              set (ground w still.live).closed ((ground w still.live).told from within) still.tell apart_here;
          taken = λ t there.
              let on : IsTrue (runs_in (world_of v from) t) =
              subst (λ (x : MachineValue). IsTrue (runs_in x.world t)) is
              (member_runs m.image tables m.world set apart t there) in
              then_taken t (λ inside. taken t (is_kept (is_in set) others t (found_in set t there) inside))
              (waits t (runs t on));
        }

    -- if one of them that nobody sees leads to a later place, they are taken quietly
    pub quietly : AreAllTaken w from (steps_in set others) → (looked_at : List Bool) (words : List ℕ) (unseen : List Step)
        → ((t : Step) → Contains unseen t → Contains (steps_in set others) t)
        → ((t : Step) → Contains unseen t → IsUnseen looked_at words m.image m.world t)
        → IsSomeTakenLater w from unseen → IsTakenQuietly looked_at words w from
    unfolding by_set
    quietly taken looked_at words unseen among none one =
        let at = machine_grown v w from m g below is in
        let inside : Contains set one.step =
        in_set set one.step (kept_is (is_in set) others one.step (among one.step one.there)).1 in
        let unseen_here : IsUnseen looked_at words w.image here one.step =
        subst (λ (x : MachineValue). IsUnseen looked_at words x.image x.world one.step) at (none one.step one.there) in
        record {
          together = by_set taken;
          step = one.step;
          there = inside;
          taken = one.taken;
          later = one.later;
          unseen =
              unseen_after (IsTrue (may_have_handlers w.image)) (Named w.live) (Live w.live) (Asked w.live) w.image tables
              here set (ground w still.live).closed ((ground w still.live).told from within) still.tell apart_here one.step
              inside looked_at words unseen_here;
        }

-- where those of a set are taken first, and then the rest, all are
pub all_in_two : (u w : SpaceValue) (from : ℕ) (set others : List Step) → IsGrown u w → from < count u
    → AreAllTaken u from (steps_in set others) → AreAllTaken w from (steps_out set others) → AreAllTaken w from others
all_in_two u w from set others g below first rest_taken t there = elim (in_or_out set others t there) [
  | inl inside ↦ taken_grown u w from t g below (first t inside)
  | inr outside ↦ rest_taken t outside
]

-- so it is of a result
pub followed_on : {E : Type 0} (r : Result Unit E) (looked_at : List Bool) (words : List ℕ) (w : SpaceValue) (from : ℕ)
    (others : List Step) → (AreAllTaken w from others → IsExpanded w from) → OnOk r (AreAllTaken w from others)
    → OnOk r (IsFollowedQuietly looked_at words w from)
followed_on (Ok a) looked_at words w from others by all = inl (by all)
followed_on (Err e) looked_at words w from others by all = all

-- One of these steps is taken, and leads to a later place.

pub some_later_grown : (v w : SpaceValue) (from : ℕ) (ts : List Step) → IsGrown v w → from < count v
    → IsSomeTakenLater v from ts → IsSomeTakenLater w from ts
some_later_grown v w from ts g below one =
    let e = taken_still v w from one.step g below one.taken in
    record {
      step = one.step;
      there = one.there;
      taken = e.0;
      later = let same = e.1 in let later = one.later in omega (arith, same, later);
    }

pub some_later : (v : SpaceValue) (from to : ℕ) (ts : List Step) (t : Step) → IsTakenTo v from t to → from < to
    → is_in ts t ≡ true → IsSomeTakenLater v from ts
some_later v from to ts t taken later inside = record {
  step = t;
  there = in_set ts t inside;
  taken = taken.0;
  later = let same = taken.1 in omega (arith, same, later);
}

-- so it stays where another step is taken, whether that one is such a step or not
pub some_later_next : (v w : SpaceValue) (from to : ℕ) (ts : List Step) (t : Step) (was on inside : Bool) → IsGrown v w
    → from < count v → (was ≡ true → IsSomeTakenLater v from ts) → IsTakenTo w from t to → (on ≡ true → from < to)
    → (inside ≡ true → is_in ts t ≡ true) → (was || (on && inside)) ≡ true → IsSomeTakenLater w from ts
some_later_next v w from to ts t true on inside g below before taken later has is =
    some_later_grown v w from ts g below (before refl)
some_later_next v w from to ts t false true true g below before taken later has is =
    some_later w from to ts t taken (later refl) (has refl)
some_later_next v w from to ts t false true false g below before taken later has is = let off : ⊥ = cc in absurd off
some_later_next v w from to ts t false false inside g below before taken later has is = let off : ⊥ = cc in absurd off
