-- A schedule that holds the steps of each processor in their order, and makes a given history.
use Rattle.std.specs.Prelude.{ℕ, ◌≡◌, List, []}
use Rattle.std.proofs.Common.{get_or}
use Rattle.image_file.specs.ImageValue.{ImageValue}
use Rattle.processor.specs.World.{history_of}
use Rattle.processor.specs.Histories.{steps_of}
use Rattle.processor.specs.declared.steps.Step.{Step}
use Rattle.processor.specs.declared.steps.Entry.{Entry}

-- processor p's steps in the schedule are list p, in order; it has no step of a processor without a list; and what it
-- asks of the memory is the history
pub record IsWeave (image : ImageValue) (schedule : List Step) (lists : List (List ℕ)) (history : List Entry)
    : Type 0 where
  pub steps : (p : ℕ) → steps_of p schedule ≡ get_or lists p []
  pub makes : history_of image schedule ≡ history
