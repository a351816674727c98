-- Streams that loop alone: steps of one stream lead from a world back to that very world.
use Rattle.std.specs.Prelude.{◌≡◌, ℕ, ◌<◌, ◌≤◌, ◌++◌, IsTrue, List, replicate}
use Rattle.image_file.specs.ImageValue.{ImageValue}
use Rattle.processor.specs.World.{World, run, steps}
use Rattle.processor.specs.declared.steps.Step.{Step}
use Rattle.waiting.specs.Running.{runs_in}
use Rattle.waiting.specs.Stuck.{IsStuck}

-- the world after so many steps of one stream alone
abbrev pub alone : ImageValue → World → Step → ℕ → World
alone image w t n = steps image w (replicate n t)

-- so many steps of one stream alone, one at least, lead back to the very same world
pub record IsCycle (image : ImageValue) (w : World) (t : Step) (n : ℕ) : Type 0 where
  pub some : 0 < n
  pub back : alone image w t n ≡ w

-- as many as this do, and no fewer
pub record IsShortestCycle (image : ImageValue) (w : World) (t : Step) (n : ℕ) : Type 0 where
  pub cycle : IsCycle image w t n
  pub least : (m : ℕ) → IsCycle image w t m → n ≤ m

-- The stream that a step names loops alone: it runs, its step is none that is tried in vain for ever, and steps of it
-- alone lead back to the very same world.
pub record IsBusy (image : ImageValue) (w : World) (t : Step) : Type 0 where
  pub runs : IsTrue (runs_in w t)
  pub free : ¬ (IsStuck image w t)
  pub cycle : (n : ℕ) × IsCycle image w t n

-- wherever a schedule leads that goes on from the beginning, no stream loops alone
abbrev pub IsNeverBusy : ImageValue → List Step → Type 0
IsNeverBusy image begin = (ts : List Step) (t : Step) → ¬ (IsBusy image (run image (begin ++ ts)) t)
