-- What a step leaves as it is.
use Rattle.std.specs.Prelude.{◌≡◌, ◌≢◌, ℕ, ◌+◌, ◌⊎◌, length}
use Rattle.processor.specs.Processors.{ProcessorValue, stream_at}
use Rattle.processor.specs.Row.{lowest_idle}

-- stream k is the lowest one that was idle, and one more stream is current
abbrev pub IsStarted : ProcessorValue → ProcessorValue → ℕ → Type 0
IsStarted old new k = (k ≡ lowest_idle old) × (new.scur ≡ old.scur + 1)

-- there are as many streams, and each but stream n and the one that CREATE starts is as it was
pub record KeepsOthers (n : ℕ) (old new : ProcessorValue) : Type 0 where
  pub as_many : length new.streams ≡ length old.streams
  pub others : (k : ℕ) → (k ≢ n) → (stream_at new.streams k ≡ stream_at old.streams k) ⊎ IsStarted old new k
