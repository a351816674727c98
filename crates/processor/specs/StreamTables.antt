-- The table that has a processor's streams: the room for them, and a write to one of them.
use Rattle.std.specs.Prelude.{ℕ, ◌≤◌, ◌≡◌, List, length, slice_set}
use Rattle.stream_core.specs.Streams.{StreamValue, idle}
use Rattle.stream_core.specs.declared.steps.Outcome.{Outcome}
use Rattle.processor.specs.Processors.{stream_at}

-- the first slim streams of the room, the others being idle
pub record IsRoom (size slim : ℕ) (ss : List StreamValue) : Type 0 where
  pub size_is : length ss ≡ size
  pub within : slim ≤ size
  pub others_idle : (k : ℕ) → slim ≤ k → stream_at ss k ≡ idle

-- the streams, with one put back as its step left it, and the step's outcome
abbrev pub put_in_streams : List StreamValue → ℕ → StreamValue × Outcome → List StreamValue × Outcome
put_in_streams ss n e = (slice_set ss n e.0, e.1)
