-- Machines along two schedules that begin with the same steps.
use Rattle.std.proofs.Common.{◌≡◌, ℕ, zero, suc, ◌≤◌, ◌++◌, refl, sym, ap, ◌∙◌, subst, arith, Bool, true, false}
use Rattle.std.proofs.Common.{if◌then◌else◌}
use Rattle.std.proofs.lemmas.List.Elements.{All-push}
use Rattle.std.proofs.Common.{List, [], ◌∷◌, length, take, get_or, Option, Some, None, IfSome}
use Rattle.std.specs.List.{All}
use Rattle.processor.specs.World.{run}
use Rattle.processor.specs.declared.steps.Step.{Step}
use Rattle.replay_debugger.specs.declared.replay.Replay.{Replay}
use Rattle.replay_debugger.specs.Places.{CheckpointsValue, checkpoints_of, IsOn}
use Rattle.replay_debugger.specs.Checkpoints.{IsCheckpoint, IsStart}

take_within : {A : Type 0} (xs : List A) (k n : ℕ) → k ≤ n → take k (take n xs) ≡ take k xs
take_within xs zero n le = refl
take_within [] (suc k) zero le = refl
take_within [] (suc k) (suc n) le = refl
take_within (x ∷ xs) (suc k) zero le = absurd (omega (arith, le))
take_within (x ∷ xs) (suc k) (suc n) le = ap (λ t. x ∷ t) (take_within xs k n (omega (arith, le)))

-- fewer steps are the same too
same_fewer : (old new : List Step) (k n : ℕ) → k ≤ n → take n new ≡ take n old → take k old ≡ take k new
same_fewer old new k n le same =
    sym (take_within old k n le) ∙ ap (take k) (sym same) ∙ take_within new k n le

-- a machine that stands where the schedules are the same is on both
pub on_other : {size : ℕ} (course : CheckpointsValue) (new : List Step) (n : ℕ) (r : Replay size)
    → n ≤ length new → take n new ≡ take n course.schedule → r.position ≤ n → IsOn course r
    → IsOn (checkpoints_of course.image new) r
on_other {size} course new n r within same below on =
    record {
      image = on.image;
      stands = record {
        within = omega (arith, within, below);
        world = on.stands.world
            ∙ ap (run r.machine.image) (same_fewer course.schedule new r.position n below same);
      };
    }

-- the same of the start, and of kept machines
pub start_other : {size : ℕ} (course : CheckpointsValue) (new : List Step) (n : ℕ) (start : Option (Replay size))
    → n ≤ length new → take n new ≡ take n course.schedule → IfSome start (IsStart course)
    → IfSome start (IsStart (checkpoints_of course.image new))
start_other {size} course new n None within same is = tt
start_other {size} course new n (Some r) within same is =
    let first = is.first in
    record {
      is_on = on_other course new n r within same (omega (arith, first)) is.is_on;
      first = first;
    }

pub kept_other : {size : ℕ} (course : CheckpointsValue) (new : List Step) (n spacing : ℕ) (kept : List (Replay size))
    → n ≤ length new → take n new ≡ take n course.schedule → All (IsCheckpoint course spacing) kept
    → All (λ (r : Replay size). r.position ≤ n) kept
    → All (IsCheckpoint (checkpoints_of course.image new) spacing) kept
kept_other {size} course new n spacing kept within same all below = λ k d lt.
    let is = all k d lt in
    record {
      is_on = on_other course new n (get_or kept k d) within same (below k d lt) is.is_on;
      behind_start = is.behind_start;
      spaced = is.spaced;
    }

-- Kept machines, as a list and with one more.

pub all_same : {A : Type 0} (P : A → Type 0) (xs ys : List A) → ys ≡ xs → All P xs → All P ys
all_same P xs ys same all = subst (All P) (sym same) all

-- one more is kept where there is memory for it
pub all_added : {A : Type 0} (P : A → Type 0) (old new : List A) (x : A) (b : Bool)
    → new ≡ (if b then old ++ x ∷ [] else old) → P x → All P old → All P new
all_added P old new x true is at all = subst (All P) (sym is) (All-push P old x all at)
all_added P old new x false is at all = subst (All P) (sym is) all
