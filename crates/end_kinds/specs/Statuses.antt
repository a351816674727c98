-- The exit status that ends come to.
use Rattle.std.specs.Prelude.{ℕ, Bool, true, false, ◌||◌}
use Rattle.end_kinds.specs.declared.kinds.EndKind.{EndKind}
use Rattle.end_kinds.specs.declared.kinds.EndKind.TheVariants as kind
use Rattle.end_kinds.specs.declared.statuses.Status.{Status}
use Rattle.end_kinds.specs.declared.statuses.Status.TheVariants as status

-- the number that the program exits with
abbrev pub number_of : Status → ℕ
number_of status.Done = 0
number_of status.Fault = 1
number_of status.NoCommand = 2
number_of status.Unexpected = 3
number_of status.Deadlock = 4
number_of status.OutOfSteps = 5

-- its place among all, the best first
abbrev pub badness : Status → ℕ
badness status.Done = 0
badness status.OutOfSteps = 1
badness status.Unexpected = 2
badness status.Deadlock = 3
badness status.Fault = 4
badness status.NoCommand = 5

-- not as expected, if so; else this one
abbrev pub unexpected_if : Bool → Status → Status
unexpected_if true other = status.Unexpected
unexpected_if false other = other

-- the status of an end of this kind: whether it misses what is expected, and whether an unexpected trap stopped a stream
abbrev pub status_of : EndKind → Bool → Bool → Status
status_of kind.Finished missed trapped = unexpected_if (missed || trapped) status.Done
status_of kind.Stopped missed trapped = unexpected_if (missed || trapped) status.Done
status_of kind.Deadlock missed trapped = status.Deadlock
status_of kind.Waiting missed trapped = unexpected_if (missed || trapped) status.Done
status_of kind.Spinning missed trapped = unexpected_if trapped status.OutOfSteps
status_of kind.Looping missed trapped = unexpected_if trapped status.Done
status_of kind.OutOfSteps missed trapped = unexpected_if trapped status.OutOfSteps
