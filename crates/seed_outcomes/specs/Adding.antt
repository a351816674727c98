-- How outcomes are added to those that are known.
use Rattle.std.specs.Prelude.{◌≡◌, ◌+◌, ◌<◌, ◌^◌, ℕ, List, [], ◌∷◌, ◌++◌, Some, slice_get}
use Rattle.std.proofs.Common.{set}
use Rattle.seed_outcomes.specs.Outcomes.{AreOfOneLine}
use Rattle.seed_outcomes.specs.declared.outcomes.SeedOutcome.{SeedOutcome}

-- One of the known outcomes has the line of another, and counts its runs too, or as many as there is room for.
pub record IsCountedIn (known : List SeedOutcome) (o : SeedOutcome) (new : List SeedOutcome) : Type 0 where
  pub place : ℕ
  pub old : SeedOutcome
  pub runs : ℕ
  pub there : slice_get known place ≡ Some old
  pub line : AreOfOneLine old o
  pub sum : old.runs + o.runs < 2 ^ 64 → runs ≡ old.runs + o.runs
  pub is : new ≡ set known place (record old { runs = runs })

-- None has, and it is the last one now.
pub record IsPushed (known : List SeedOutcome) (o : SeedOutcome) (new : List SeedOutcome) : Type 0 where
  pub none : (k : ℕ) (old : SeedOutcome) → slice_get known k ≡ Some old → ¬ AreOfOneLine old o
  pub is : new ≡ known ++ o ∷ []

-- An outcome is added.
pub data IsAdded (known : List SeedOutcome) (o : SeedOutcome) (new : List SeedOutcome) : Type 0 where
  to_known : IsCountedIn known o new → IsAdded known o new
  at_end : IsPushed known o new → IsAdded known o new

-- Outcomes are added one after another.
pub data AreAdded (known : List SeedOutcome) : List SeedOutcome → List SeedOutcome → Type 0 where
  same : AreAdded known [] known
  more : {os mid new : List SeedOutcome} {o : SeedOutcome} → AreAdded known os mid → IsAdded mid o new
      → AreAdded known (os ++ o ∷ []) new
