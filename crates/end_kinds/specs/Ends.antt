-- Which kind of end a world is.
use Rattle.std.specs.Prelude.{Bool, true, false, Option, Some, None, slice_get, IsTrue}
use Rattle.waiting.specs.ImageFile.ImageValue.{ImageValue}
use Rattle.waiting.specs.StreamCore.Streams.{StreamValue}
use Rattle.waiting.specs.StreamCoreTypes.Status.{Status}
use Rattle.waiting.specs.StreamCoreTypes.Status.TheVariants.{Idle, Running, Stopped}
use Rattle.waiting.specs.Processor.World.{World}
use Rattle.waiting.specs.ProcessorTypes.Step.{Step}
use Rattle.waiting.specs.Running.{streams_at}
use Rattle.waiting.specs.Stuck.{SomeRuns, IsStandstill}
use Rattle.end_kinds.specs.declared.kinds.EndKind.{EndKind}
use Rattle.end_kinds.specs.declared.kinds.EndKind.TheVariants as kind

-- whether a trap stopped a stream of this status
abbrev pub is_stopped_status : Status → Bool
is_stopped_status Idle = false
is_stopped_status Running = false
is_stopped_status (Stopped k) = true

-- whether a stream that may be missing was stopped by a trap
abbrev pub stopped_at : Option StreamValue → Bool
stopped_at None = false
stopped_at (Some s) = is_stopped_status s.status

-- whether the stream that a step names is there and was stopped by a trap
abbrev pub stopped_in : World → Step → Bool
stopped_in w t = stopped_at (slice_get (streams_at (slice_get w.processors t.p)) t.s)

-- a trap stopped some stream
abbrev pub SomeStopped : World → Type 0
SomeStopped w = (t : Step) × IsTrue (stopped_in w t)

-- The kind of the end that a world is, if no step follows. Nothing but a search over all worlds shows that a program
-- spins, and no world shows what a file of expectations lets a program do.
abbrev pub IsKindOf : ImageValue → World → EndKind → Type 0
IsKindOf image w kind.Finished = (¬ (SomeRuns w)) × (¬ (SomeStopped w))
IsKindOf image w kind.Stopped = (¬ (SomeRuns w)) × SomeStopped w
IsKindOf image w kind.Deadlock = IsStandstill image w
IsKindOf image w kind.Waiting = ⊥
IsKindOf image w kind.Spinning = ⊥
IsKindOf image w kind.Looping = ⊥
IsKindOf image w kind.OutOfSteps = SomeRuns w × (¬ (IsStandstill image w))
