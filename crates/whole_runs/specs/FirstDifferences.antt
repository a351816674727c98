-- The first position at which two runs of one image differ.
use Rattle.std.specs.Prelude.{◌≡◌, ◌≢◌, ◌<◌, ℕ, List, take}
use Rattle.image_file.specs.ImageValue.{ImageValue}
use Rattle.processor.specs.World.{World, run}
use Rattle.processor.specs.declared.steps.Step.{Step}
use Rattle.step_views.specs.Changes.{AreChanges}
use Rattle.whole_runs.specs.declared.first_differences.Difference.{Difference}

-- the world at a position of a run: after its first steps, so many of them; after all of them where it has fewer
abbrev pub world_at : ImageValue → List Step → ℕ → World
world_at image ts k = run image (take k ts)

-- The worlds of the two runs differ at the position, and at none before it; the changes from the one to the other are
-- the places.
pub record IsFirstDifference (image : ImageValue) (one other : List Step) (d : Difference) : Type 0 where
  pub differs : world_at image one d.position ≢ world_at image other d.position
  pub first : (k : ℕ) → k < d.position → world_at image one k ≡ world_at image other k
  pub places : AreChanges (world_at image one d.position) (world_at image other d.position) d.places.items

-- the worlds of the two runs differ at no position
abbrev pub AreAlike : ImageValue → List Step → List Step → Type 0
AreAlike image one other = (k : ℕ) → world_at image one k ≡ world_at image other k
