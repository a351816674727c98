-- What is said of the streams of a program that can wait for ever.
use Rattle.std.specs.Prelude.{◌≡◌, ◌⊎◌, ◌≤◌, ◌++◌, List, [], length, Contains}
use Rattle.image_file.specs.ImageValue.{ImageValue}
use Rattle.processor.specs.World.{run}
use Rattle.processor.specs.declared.steps.Step.{Step}
use Rattle.schedule_space.specs.Spaces.{SpaceValue, IsComplete, HasAllEdges, IsDistinct, IsShortest}
use Rattle.claims.specs.declared.run_conditions.Rest.{Rest}
use Rattle.starving_streams.specs.declared.reports.Starving.{Starving}
use Rattle.starving_streams.specs.declared.reports.StarvingStreams.{StarvingStreams}
use Rattle.starving_streams.specs.Starving.{Starves, CanWaitForEver, NobodyWaits}

-- The space has each world that a schedule leads to, once, with each step that leads from one to another, and no schedule
-- to a world is shorter than the one that the space gives.
pub record HasAllStates (v : SpaceValue) : Type 0 where
  pub complete : IsComplete v
  pub edges : HasAllEdges v
  pub distinct : IsDistinct v
  pub shortest : IsShortest v

-- The stream starves in the round that is shown, at the world that the stem leads to. The stem begins as was asked, and
-- no schedule that does leads there in fewer steps.
pub record IsShown (image : ImageValue) (begin : List Step) (rests : List Rest) (x : Starving) : Type 0 where
  pub begins : (more : List Step) × (x.stem.items ≡ begin ++ more)
  pub starves : Starves image rests (run image x.stem.items) x.stream x.round.items
  pub shortest : (ts : List Step) → run image (begin ++ ts) ≡ run image x.stem.items
      → length x.stem.items ≤ length (begin ++ ts)

-- a stream is shown with this name
abbrev pub Names : List Starving → Step → Type 0
Names xs who = (x : Starving) × Contains xs x × (x.stream ≡ who)

-- Each that is shown starves so, and each that can is shown, or is one of which it was not decided.
pub record TellsWhoStarves (image : ImageValue) (begin : List Step) (rests : List Rest) (r : StarvingStreams) : Type 0 where
  pub shown : (x : Starving) → Contains r.starving.items x → IsShown image begin rests x
  pub all : (who : Step) → CanWaitForEver image begin rests who → Names r.starving.items who ⊎ Contains r.undecided.items who
  pub nobody : r.starving.items ≡ [] → r.undecided.items ≡ [] → NobodyWaits image begin rests
