-- A processor, as contracts see it, and how it begins. Streams at or above slim are idle and stay so: they are left
-- out.
use Rattle.std.specs.Prelude.{ℕ, ◌+◌, ◌≤◌, ◌≡◌, Bool, true, false, List, [], ◌∷◌, length}
use Rattle.std.specs.Prelude.{slice_set, replicate, if◌then◌else◌}
use Rattle.std.specs.Prelude.{Option, Some, None, nat_lt, slice_index_or}
use Rattle.image_file.specs.ImageValue.{ImageValue}
use Rattle.stream_core.specs.StatusWords.{status_at, no_mask}
use Rattle.stream_core.specs.Streams.{StreamValue, idle}
use Rattle.stream_core.specs.Children.{child_stream}
use Rattle.stream_core.specs.declared.steps.Status.{Status}
use Rattle.stream_core.specs.declared.steps.Status.TheVariants.{Idle, Running, Stopped}

-- its streams by number, how many of them are not idle, and how many are reserved
pub record ProcessorValue : Type 0 where
  pub streams : List StreamValue
  pub scur : ℕ
  pub sres : ℕ

-- whether a stream of this status is idle
abbrev pub is_idle_status : Status → Bool
is_idle_status Idle = true
is_idle_status Running = false
is_idle_status (Stopped k) = false

-- whether a stream is idle
abbrev pub is_idle : StreamValue → Bool
is_idle s = is_idle_status s.status

-- the stream of this number; idle where there is none
abbrev pub stream_at : List StreamValue → ℕ → StreamValue
stream_at ss n = slice_index_or ss n idle

-- an idle stream holds zeros only
abbrev pub IsZeroIfIdle : StreamValue → Type 0
IsZeroIfIdle s = is_idle s ≡ true → s ≡ idle

-- how many streams are not idle: a stopped stream counts
abbrev pub count_current : List StreamValue → ℕ
count_current [] = 0
count_current (s ∷ ss) = (if is_idle s then 0 else 1) + count_current ss

-- what holds of each processor: the counts keep to the streams, and idle streams hold zeros only
pub record IsCounted (proc : ProcessorValue) : Type 0 where
  pub counts : proc.scur ≡ count_current proc.streams
  pub within_sres : proc.scur ≤ proc.sres
  pub within_slim : proc.sres ≤ length proc.streams
  pub zeros : (n : ℕ) → IsZeroIfIdle (stream_at proc.streams n)

-- the stream that a processor begins with: its t0 is the image's trap entry
abbrev pub first_stream : ImageValue → ℕ → StreamValue
first_stream image entry =
    child_stream (record { pc = entry; value = 0; t0 = status_at image.trap_entry; mask = no_mask })

-- what is seen of a processor that has room for so many streams: none from there on
abbrev pub stream_seen : ℕ → List StreamValue → ℕ → Option StreamValue
stream_seen size ss n = if nat_lt n size then Some (stream_at ss n) else None

-- a processor at its start: stream 0 runs from the entry, the others are idle
unfoldable pub opening : ImageValue → ℕ → ProcessorValue
opening image entry = record {
  streams = slice_set (replicate image.slim idle) 0 (first_stream image entry);
  scur = 1;
  sres = 1;
}
