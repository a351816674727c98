-- Quiet steps that are taken before others, and the steps that wait for them.
use Rattle.std.proofs.Common.{◌≡◌, ℕ, ◌+◌, ◌<◌, ◌≤◌, ◌⊎◌, inl, inr, refl, sym, ap, subst, arith, List, [], ◌∷◌, Bool, length}
use Rattle.std.specs.List.{Contains}
use Rattle.std.specs.Prelude.{Result, Ok, Err, OnOk}
use Rattle.std.proofs.lemmas.Bool.{cases_lt}
use Rattle.tag_memory.specs.Storage.{cell_at}
use Rattle.machine.specs.MachineValue.{MachineValue}
use Rattle.processor.specs.declared.steps.Step.{Step}
use Rattle.image_file.specs.ImageValue.{ImageValue}
use Rattle.processor.specs.World.{World, steps}
use Rattle.agreeing_ends.specs.FirstSets.{AreOutside, IsFirstSet}
use Rattle.agreeing_ends.specs.Unseen.{AreOthers}
use Rattle.agreeing_ends.specs.LocalSteps.FreeSteps.{IsFreeStep}
use Rattle.agreeing_ends.proofs.FreeSets.{only_one, first_alone_over}
use Rattle.world_keys.specs.DeadRegisters.Clearing.{LiveValue, AgreeBy}
use Rattle.schedule_space.specs.Spaces.{SpaceValue, count, schedule_of, world_of, machine_after}
use Rattle.schedule_space.specs.Finding.{IsGrown, IsTaken, IsTakenTo, IsExpanded, HasRunning}
use Rattle.schedule_space.specs.Followed.{IsTakenTogether, IsFollowed, AllFollowed}
use Rattle.schedule_space.specs.Quiet.{IsQuietStep, IsUnseenStep, IsTakenQuietly, IsFollowedQuietly, AllFollowedQuietly}
use Rattle.schedule_space.proofs.Agreeing.{agree_same}
use Rattle.schedule_space.proofs.FreeSteps.{free_memory, free_others}
use Rattle.schedule_space.proofs.Growing.{world_grown, taken_still, taken_grown, expanded_grown}
use Rattle.schedule_space.proofs.QuietSteps.{quiet_behind}
use Rattle.schedule_space.proofs.Taking.{AreAllTaken, AreTakenOrWait, all_taken, waits_taken, machine_grown}

-- where each stream that runs takes its step, the world is expanded
pub expanded_if : {E : Type 0} (r : Result Unit E) (v w : SpaceValue) (from : ℕ) (ts : List Step) → IsGrown v w
    → from < count v → HasRunning (world_of v from) ts → OnOk r (AreAllTaken w from ts) → OnOk r (IsExpanded w from)
expanded_if (Ok a) v w from ts g below running all =
    all_taken w from ts (omega (arith, below, g.more))
    (subst (λ (x : World). HasRunning x ts) (sym (world_grown v w from g below)) running) all
expanded_if (Err e) v w from ts g below running all = all

pub followed_if : {E : Type 0} (r : Result Unit E) (looked_at : List Bool) (words : List ℕ) (v : SpaceValue) (from : ℕ)
    → OnOk r (IsExpanded v from) → OnOk r (IsFollowedQuietly looked_at words v from)
followed_if (Ok a) looked_at words v from all = inl all
followed_if (Err e) looked_at words v from all = all

-- so it is where the steps that wait are taken after the others
pub waiting_taken : {E : Type 0} (r : Result Unit E) (w u : SpaceValue) (from n : ℕ) (others ts : List Step)
    → IsGrown w u → from < count w → length ts ≤ n → AreTakenOrWait w from others ts n
    → OnOk r (AreAllTaken u from others) → OnOk r (AreAllTaken u from ts)
waiting_taken (Ok a) w u from n others ts g below many left all = waits_taken w u from n others ts g below many left all
waiting_taken (Err e) w u from n others ts g below many left all = all

-- the steps of a set are taken also where the space has grown
together_grown : (v w : SpaceValue) (k : ℕ) → IsGrown v w → k < count v → IsTakenTogether v k → IsTakenTogether w k
together_grown v w k g below some = record {
  set = some.set;
  first =
      subst (λ (l : LiveValue). IsFirstSet (AgreeBy l) w.image (world_of w k) some.set) (sym g.live)
      (subst (λ (i : ImageValue). IsFirstSet (AgreeBy v.live) i (world_of w k) some.set) (sym g.image)
      (subst (λ (x : World). IsFirstSet (AgreeBy v.live) v.image x some.set) (sym (world_grown v w k g below)) some.first));
  taken = λ t there. taken_grown v w k t g below (some.taken t there);
}

-- One step is a set.

in_front : (t : Step) → Contains (t ∷ []) t
in_front t = (0, omega arith, refl)

others_of : (t : Step) (us : List Step) → AreOutside (t ∷ []) us → AreOthers t us
others_of t [] out = tt
others_of t (u ∷ us) out = (
  λ same. out.0 (subst (Contains (t ∷ [])) (sym same) (in_front t)),
  others_of t us out.1,
)

-- nobody sees a quiet step that can be taken before all others, after whatever others do
free_unseen : (looked_at : List Bool) (words : List ℕ) (image : ImageValue) (w : World) (t : Step) → IsFreeStep image w t
    → IsQuietStep looked_at image w t → (us : List Step) → AreOthers t us
    → IsUnseenStep looked_at words image (steps image w us) t
free_unseen looked_at words image w t free quiet us others =
    let there = quiet_behind looked_at image w t us free quiet others in
    record {
      quiet = there.quiet;
      others = λ u apart. free_others image (steps image w us) t u there.free apart;
      cells = λ a c. ap (λ m. cell_at m a) (free_memory image (steps image w us) t there.free);
    }

module _ (looked_at : List Bool) (words : List ℕ) where
  -- a quiet step of the machine at a place that is taken alone, and leads to a later place
  pub quiet_at : (v w : SpaceValue) (from to : ℕ) (m : MachineValue) (t : Step) → IsGrown v w
      → from < count v → m ≡ machine_after v.image (schedule_of v from) → IsFreeStep m.image m.world t
      → IsQuietStep looked_at m.image m.world t → IsTakenTo w from t to → from < to → IsTakenQuietly looked_at words w from
  quiet_at v w from to m t g below is l quiet taken later =
      let at = machine_grown v w from m g below is in
      let free : IsFreeStep w.image (world_of w from) t = subst (λ (x : MachineValue). IsFreeStep x.image x.world t) at l in
      let silent : IsQuietStep looked_at w.image (world_of w from) t =
      subst (λ (x : MachineValue). IsQuietStep looked_at x.image x.world t) at quiet in
      record {
        together = record {
          set = t ∷ [];
          first =
              first_alone_over (AgreeBy w.live) w.image (world_of w from) t (λ x. agree_same w.live x x refl) free;
          taken = λ u there. subst (IsTaken w from) (only_one t u there) taken.0;
        };
        step = t;
        there = in_front t;
        taken = taken.0;
        later = let same = taken.1 in omega (arith, same, later);
        unseen = λ us out. free_unseen looked_at words w.image (world_of w from) t free silent us (others_of t us out);
      }

  -- it is so where the space has grown
  quiet_grown : (v w : SpaceValue) (k : ℕ) → IsGrown v w → k < count v → IsTakenQuietly looked_at words v k
      → IsTakenQuietly looked_at words w k
  unfolding together_grown
  quiet_grown v w k g below one =
      let e = taken_still v w k one.step g below one.taken in
      let there = together_grown v w k g below one.together in
      record {
        together = there;
        step = one.step;
        there = one.there;
        taken = e.0;
        later = let same = e.1 in let later = one.later in omega (arith, same, later);
        unseen = λ us out.
            subst (λ (i : ImageValue). IsUnseenStep looked_at words i (steps i (world_of w k) us) one.step) (sym g.image)
            (subst (λ (x : World). IsUnseenStep looked_at words v.image (steps v.image x us) one.step)
            (sym (world_grown v w k g below)) (one.unseen us out));
      }

  followed_grown : (v w : SpaceValue) (k : ℕ) → IsGrown v w → k < count v → IsFollowedQuietly looked_at words v k
      → IsFollowedQuietly looked_at words w k
  followed_grown v w k g below (inl all) = inl (expanded_grown v w k g below all)
  followed_grown v w k g below (inr one) = inr (quiet_grown v w k g below one)

  -- one world more is followed
  pub followed_more : (v w : SpaceValue) (n : ℕ) → IsGrown v w → n < count v
      → ((k : ℕ) → k < n → IsFollowedQuietly looked_at words v k) → IsFollowedQuietly looked_at words w n
      → (k : ℕ) → k < n + 1 → IsFollowedQuietly looked_at words w k
  followed_more v w n g inside all last k below = by_case (cases_lt k n) where
    by_case : (k < n) ⊎ (n ≤ k) → IsFollowedQuietly looked_at words w k
    by_case (inl less) = followed_grown v w k g (omega (arith, less, inside)) (all k less)
    by_case (inr past) =
        let same : n ≡ k = omega (arith, below, past) in subst (IsFollowedQuietly looked_at words w) same last

  -- what is followed in a space is so in the same one
  pub same_followed : (v w : SpaceValue) → w ≡ v → ((k : ℕ) → k < count v → IsFollowedQuietly looked_at words v k) → (k : ℕ)
      → k < count w → IsFollowedQuietly looked_at words w k
  same_followed v w is all =
      subst (λ (x : SpaceValue). (k : ℕ) → k < count x → IsFollowedQuietly looked_at words x k) (sym is) all

  followed_at : (v : SpaceValue) (k : ℕ) → IsFollowedQuietly looked_at words v k → IsFollowed v k
  followed_at v k (inl all) = inl all
  followed_at v k (inr one) = inr one.together

  -- who takes sets quietly takes sets
  pub followed_all : (v : SpaceValue) → AllFollowedQuietly looked_at words v → AllFollowed v
  followed_all v all k below = followed_at v k (all k below)
