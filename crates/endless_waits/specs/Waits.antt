-- Of which searches it is said who can wait forever, and what is said.
use Rattle.std.specs.Prelude.{◌≡◌, ℕ, ◌==◌, nat_lt, Bool, false, ◌&&◌, if◌then◌else◌, List, [], length, codes, ⊤, IsTrue, Option, Some, None}
use Rattle.image_file.specs.ImageValue.{ImageValue}
use Rattle.processor.specs.declared.steps.Step.{Step}
use Rattle.end_kinds.specs.declared.statuses.Status.{Status}
use Rattle.end_kinds.specs.declared.statuses.Status.TheVariants as status
use Rattle.run_answers.specs.StarvingStreams.ScheduleSpace.Spaces.{SpaceValue}
use Rattle.run_answers.specs.StarvingStreams.Starving.{NobodyWaits}
use Rattle.run_answers.specs.ConditionsTypes.Rest.{Rest}
use Rattle.run_answers.specs.StarvingStreams.Reports.{HasAllStates, TellsWhoStarves}
use Rattle.run_answers.specs.StarvingStreamsTypes.Starving.{Starving}
use Rattle.endless_waits.specs.declared.extents.SearchExtent.{SearchExtent}
use Rattle.endless_waits.specs.declared.extents.SearchExtent.TheVariants as extent
use Rattle.endless_waits.specs.declared.unanswered.Unanswered.{Unanswered}
use Rattle.endless_waits.specs.declared.unanswered.Unanswered.TheVariants as reason
use Rattle.endless_waits.specs.declared.waits.EndlessWaits.{EndlessWaits}
use Rattle.endless_waits.specs.declared.waits.EndlessWaits.TheVariants as waits

-- what a space has whose search went so far: all states, or nothing is known of it
abbrev pub HasExtent : SearchExtent → SpaceValue → Type 0
HasExtent extent.AllStates v = HasAllStates v
HasExtent extent.Bounded v = ⊤
HasExtent extent.Reduced v = ⊤

-- the most states
abbrev pub most_states : ℕ
most_states = 100000

-- that they are too many, where that is so
abbrev pub too_many : ℕ → Option Unanswered
too_many states = if nat_lt most_states states then Some reason.TooManyStates else None

-- why it is not asked of so many states, which a search found that went so far
abbrev pub why_not : SearchExtent → ℕ → Option Unanswered
why_not extent.Reduced states = Some reason.NotAllStates
why_not extent.Bounded states = Some reason.NotComplete
why_not extent.AllStates states = too_many states

-- why it was not
abbrev pub why_not_in : EndlessWaits → Option Unanswered
why_not_in (waits.Answered r) = None
why_not_in (waits.Unanswered u) = Some u

-- in words
abbrev pub reason_words : Unanswered → List ℕ
reason_words reason.NotAllStates = codes "not all states were explored"
reason_words reason.NotComplete = codes "the search is not complete"
reason_words reason.TooManyStates = codes "there are more than 100000 states"

-- in JSON
abbrev pub reason_json_name : Unanswered → List ℕ
reason_json_name reason.NotAllStates = codes "reduced"
reason_json_name reason.NotComplete = codes "bound"
reason_json_name reason.TooManyStates = codes "states"

-- whether it was asked, no stream is shown, and none is left undecided
abbrev pub is_nobody : EndlessWaits → Bool
is_nobody (waits.Answered r) = length r.starving.items == 0 && length r.undecided.items == 0
is_nobody (waits.Unanswered u) = false

-- the streams that are shown
abbrev pub shown_in : EndlessWaits → List Starving
shown_in (waits.Answered r) = r.starving.items
shown_in (waits.Unanswered u) = []

-- done if nobody waits, else as of an endless loop
abbrev pub status_of_waits : EndlessWaits → Status
status_of_waits w = if is_nobody w then status.Done else status.OutOfSteps

-- of a search: as of who waits, if that was asked
abbrev pub status_if : Bool → EndlessWaits → Status
status_if asked w = if asked then status_of_waits w else status.Done

-- An answer tells who can wait forever; that it was not asked says nothing.
abbrev pub TellsWhoWaits : ImageValue → List Step → List Rest → EndlessWaits → Type 0
TellsWhoWaits image begin rests (waits.Answered r) = TellsWhoStarves image begin rests r
TellsWhoWaits image begin rests (waits.Unanswered u) = ⊤

-- What is said of who can wait forever is so of a program whose schedules begin so, and whose streams may rest so.
pub record IsSoOfWaits (image : ImageValue) (begin : List Step) (rests : List Rest) (w : EndlessWaits) : Type 0 where
  -- Each stream that is shown can wait forever, and each that can is shown or left undecided.
  pub tells : TellsWhoWaits image begin rests w
  -- If it says that nobody can, nobody can.
  pub nobody : IsTrue (is_nobody w) → NobodyWaits image begin rests
  -- If nobody can, it shows no stream.
  pub only : NobodyWaits image begin rests → shown_in w ≡ []
