-- Which streams run, and the steps that they can take in the order of processor and stream.
use Rattle.std.specs.Prelude.{ℕ, ◌+◌, Bool, false, List, [], ◌∷◌, ◌++◌, Option, Some, None, slice_get}
use Rattle.std.specs.Prelude.{if◌then◌else◌, Contains, IsTrue, ◌↔◌}
use Rattle.stream_core.specs.Streams.{StreamValue}
use Rattle.machine.specs.Processor.Processors.{ProcessorValue}
use Rattle.machine.specs.Processor.Records.{is_running}
use Rattle.machine.specs.Processor.World.{World}
use Rattle.machine.specs.ProcessorTypes.Step.{Step}

-- the streams of a processor that may be missing
abbrev pub streams_at : Option ProcessorValue → List StreamValue
streams_at None = []
streams_at (Some proc) = proc.streams

-- whether a stream that may be missing runs
abbrev pub runs_at : Option StreamValue → Bool
runs_at None = false
runs_at (Some s) = is_running s

-- whether the stream that a step names is there and runs
abbrev pub runs_in : World → Step → Bool
runs_in w t = runs_at (slice_get (streams_at (slice_get w.processors t.p)) t.s)

-- the steps of the running ones of the streams of processor p, which are numbered from n on
abbrev pub running_from : ℕ → ℕ → List StreamValue → List Step
running_from p n [] = []
running_from p n (s ∷ ss) = (if is_running s then record { p = p; s = n } ∷ [] else []) ++ running_from p (n + 1) ss

-- the same of the streams of processors, which are numbered from p on
abbrev pub running_of : ℕ → List ProcessorValue → List Step
running_of p [] = []
running_of p (proc ∷ procs) = running_from p 0 proc.streams ++ running_of (p + 1) procs

-- the steps of all streams that run, in the order of processor and stream
abbrev pub running_steps : World → List Step
running_steps w = running_of 0 w.processors

-- A list has the step of each stream that runs, and no other.
abbrev pub AreRunning : World → List Step → Type 0
AreRunning w ts = (t : Step) → Contains ts t ↔ IsTrue (runs_in w t)
