-- Which ends of every schedule the runs of seeds came to.
use Rattle.std.specs.Prelude.{◌≡◌, ℕ, List, Some, slice_get}
use Rattle.space_ends.specs.declared.end_values.SpaceEnd.{SpaceEnd}
use Rattle.space_ends.specs.declared.end_values.SpaceEndKind.TheVariants as kind
use Rattle.space_ends.specs.EndStates.EndStates.{AreSameStates}
use Rattle.seed_outcomes.specs.declared.outcomes.SeedOutcome.{SeedOutcome}

-- An outcome is an end of every schedule: both are judged alike, whatever is broken on the way, and show the same.
pub record IsMetBy (end : SpaceEnd) (o : SeedOutcome) : Type 0 where
  pub kind : end.kind ≡ kind.End o.judgement.kind
  pub missed : end.missed ≡ o.judgement.missed
  pub trapped : end.is_trapped ≡ o.judgement.is_trapped
  pub state : AreSameStates end.state o.state

-- some outcome is
abbrev pub IsMet : SpaceEnd → List SeedOutcome → Type 0
IsMet end os = (k : ℕ) × (o : SeedOutcome) × (slice_get os k ≡ Some o) × IsMetBy end o

-- the run of some outcome breaks a claim, before all others that it breaks
abbrev pub IsBrokenBySome : ℕ → List SeedOutcome → Type 0
IsBrokenBySome claim os = (k : ℕ) × (o : SeedOutcome) × (slice_get os k ≡ Some o) × (o.judgement.broken ≡ Some claim)

-- The worlds of an end break a claim, and the run of some outcome breaks the same.
abbrev pub IsReported : SpaceEnd → List SeedOutcome → Type 0
IsReported broken os = (claim : ℕ) × (broken.kind ≡ kind.Broken claim) × IsBrokenBySome claim os
