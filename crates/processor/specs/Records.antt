-- A processor of an image beside the record of what it did.
use Rattle.std.specs.Prelude.{ℕ, ◌≡◌, List, Some, slice_get, length, Bool, true, false}
use Rattle.std.specs.List.{list_any}
use Rattle.image_file.specs.ImageValue.{ImageValue}
use Rattle.stream_core.specs.Streams.{StreamValue}
use Rattle.stream_core.specs.declared.steps.Status.{Status}
use Rattle.stream_core.specs.declared.steps.Status.TheVariants.{Idle, Running, Stopped}
use Rattle.processor.specs.Processors.{ProcessorValue}
use Rattle.processor.specs.OwnSteps.{IsOwn, IsPlace}
use Rattle.processor.specs.declared.steps.Asked.{Asked}

-- its image and number, the streams that it stepped, what it asked with the replies, its state, and for how many more
-- steps it has room
pub record RecordValue : Type 0 where
  pub image : ImageValue
  pub number : ℕ
  pub steps : List ℕ
  pub pairs : List Asked
  pub state : ProcessorValue
  pub spare : ℕ

-- the streams that were stepped, and for how many more there is room
pub record StepsValue : Type 0 where
  pub numbers : List ℕ
  pub spare : ℕ

-- what holds of each record: its state is what its steps and pairs lead to
abbrev pub IsKept : RecordValue → Type 0
IsKept r = IsOwn r.image r.number r.steps r.pairs r.state

-- each pair has its place
pub record IsPlaced (image : ImageValue) (p : ℕ) (ss : List ℕ) (rs : List Asked) (places : List ℕ) : Type 0 where
  pub each : length places ≡ length rs
  pub place : (k n : ℕ) → slice_get places k ≡ Some n → IsPlace image p ss rs k n

-- whether a stream of this status runs
abbrev pub is_running_status : Status → Bool
is_running_status Idle = false
is_running_status Running = true
is_running_status (Stopped k) = false

-- whether a stream runs
abbrev pub is_running : StreamValue → Bool
is_running s = is_running_status s.status

-- whether any stream runs
abbrev pub any_runs : ProcessorValue → Bool
any_runs proc = list_any is_running proc.streams
