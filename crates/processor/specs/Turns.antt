-- Whose turn it is, where a processor is driven: the least running stream above the one that stepped last, else the
-- least running one.
use Rattle.std.specs.Prelude.{ℕ, ◌≡◌, ◌+◌, ◌-◌, ◌≤◌, if◌then◌else◌, List, [], ◌∷◌, Option, Some, None}
use Rattle.std.specs.Prelude.{slice_get, length, take, drop}
use Rattle.image_file.specs.ImageValue.{ImageValue}
use Rattle.stream_core.specs.Streams.{StreamValue}
use Rattle.processor.specs.Processors.{ProcessorValue}
use Rattle.processor.specs.Records.{is_running}
use Rattle.processor.specs.OwnSteps.{IsOwn}
use Rattle.processor.specs.declared.steps.Asked.{Asked}

-- the number of the first running stream of streams that are numbered from n on
abbrev pub first_running : List StreamValue → ℕ → Option ℕ
first_running [] n = None
first_running (s ∷ ss) n = if is_running s then Some n else first_running ss (n + 1)

-- the least running stream from number n on
abbrev pub running_from : ProcessorValue → ℕ → Option ℕ
running_from proc n = first_running (drop n proc.streams) n

-- the one stream where there is one, else the other
abbrev pub or_first : Option ℕ → Option ℕ → Option ℕ
or_first (Some s) o = Some s
or_first None o = o

-- the stream whose turn it is, after the one that stepped last if any has; none where no stream runs
abbrev pub turn_after : ProcessorValue → Option ℕ → Option ℕ
turn_after proc None = running_from proc 0
turn_after proc (Some last) = or_first (running_from proc (last + 1)) (running_from proc 0)

-- the stream that stepped last, none before the first step
abbrev pub last_of : List ℕ → Option ℕ
last_of ss = slice_get ss (length ss - 1)

-- step k of a record is of the stream whose turn it was: the one after the steps before it, in the state that they
-- lead to with the pairs that they took
pub record IsInTurn (image : ImageValue) (p : ℕ) (ss : List ℕ) (rs : List Asked) (k : ℕ) : Type 0 where
  pub taken : ℕ
  pub taken_in : taken ≤ length rs
  pub state : ProcessorValue
  pub before : IsOwn image p (take k ss) (take taken rs) state
  pub turn : slice_get ss k ≡ turn_after state (last_of (take k ss))
