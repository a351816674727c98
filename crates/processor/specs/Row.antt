-- The operation table: a step of one stream of a processor, given the reply to its request. The first line that holds
-- decides. The lines are those of docs/MACHINE.md, "One step": make checks compares the texts.
--
--   | 1 | it does not run | as before | Skipped |
--   | 2 | the pc is at or past the program's end | trap PROGRAM, address 0 | Trapped or Stopped |
--   | 3 | the word spells no instruction | trap ILLEGAL, address 0 | Trapped or Stopped |
--   | 4 | the instruction has CREATE, and every reserved stream of the processor is in use (`scur = sres`,
--     "Processors") | trap CREATE, address 0 | Trapped or Stopped |
--   | 5 | it has a memory reference, and the memory replies Trap | that trap, at the reply's address | Trapped or
--     Stopped |
--   | 6 | the memory replies Blocked | see "Retries" | Blocked, Trapped or Stopped |
--   | 7 | else | all writes of the instruction | Done |
--
-- The words that carry each line; those marked * are stream_core's (StreamRow, Effects, Streams):
--
--   1 row_at; fetch_if*, row_on_fetch; a stream that is not there does not run
--   2 fetch_word*
--   3 fetch_instruction*, in the image's profile
--   4 step_fetch_from, lacks_stream
--   5 after_reply*
--   6 after_blocked_reply*: trap BLOCKED where the limit is not 0, the count at or above it and mask bit 2 clear; else
--     the count grows by 1 where it is below the limit, and the outcome is Blocked
--   7 row_asking*, after_instruction*: the count becomes 0 where the instruction has a reference; grant_of and
--     after_control: what RESERVE, CREATE, QUIT and QUITP do to scur, sres and the streams
--
-- `count` is the retry count and `limit` the image's retry limit. A trap (after_trap*) has the outcome Trapped or
-- Stopped, and sets the count to 0. Where no reply is given, as no caller does, a reference waits (after_reply_if*).
use Rattle.std.specs.Prelude.{ℕ, ◌+◌, ◌-◌, ◌==◌, min, Bool, false, Option, Some, None}
use Rattle.std.specs.Prelude.{if◌then◌else◌, slice_get, slice_set}
use Rattle.std.specs.List.{position_or_len}
use Rattle.tag_memory.specs.declared.requests.Request.{Request}
use Rattle.tag_memory.specs.declared.requests.Reply.{Reply}
use Rattle.tag_memory.specs.Storage.{TaggedMemory}
use Rattle.tag_memory.specs.Answer.{answer}
use Rattle.image_file.specs.ImageValue.{ImageValue}
use Rattle.stream_core.specs.Streams.{StreamValue, idle, after_trap}
use Rattle.stream_core.specs.Children.{child_stream}
use Rattle.stream_core.specs.Effects.{request_of}
use Rattle.stream_core.specs.StreamRow.{fetch_of, control_of, row_asking}
use Rattle.stream_core.specs.declared.traps.TrapKind.TheVariants as kind
use Rattle.stream_core.specs.declared.steps.Outcome.{Outcome}
use Rattle.stream_core.specs.declared.steps.Outcome.TheVariants as outcome
use Rattle.stream_core.specs.declared.steps.Fetch.{Fetch}
use Rattle.stream_core.specs.declared.steps.Fetch.TheVariants as fetch
use Rattle.stream_core.specs.declared.steps.Control.{Control}
use Rattle.stream_core.specs.declared.steps.Control.TheVariants as asks
use Rattle.processor.specs.Processors.{ProcessorValue, is_idle}
use Rattle.processor.specs.declared.steps.Next.{Next}
use Rattle.processor.specs.declared.steps.NextStep.{NextStep}
use Rattle.processor.specs.declared.steps.Next.TheVariants as next

-- What a step begins with.

-- what stands at the pc of the stream, in the image's profile
abbrev pub image_fetch : ImageValue → StreamValue → Fetch
image_fetch image s = fetch_of image.profile image.program s

-- whether a CREATE finds no reserved stream that is free
abbrev pub lacks_stream : ProcessorValue → Control → Bool
lacks_stream proc asks.Plain = false
lacks_stream proc (asks.Reserve n) = false
lacks_stream proc (asks.Create child) = proc.scur == proc.sres
lacks_stream proc asks.Quit = false
lacks_stream proc asks.QuitKeep = false

-- what a step begins with: a trap in place of a CREATE that finds no stream
abbrev pub step_fetch_from : ProcessorValue → StreamValue → Fetch → Fetch
step_fetch_from proc s fetch.Rest = fetch.Rest
step_fetch_from proc s (fetch.Trap k) = fetch.Trap k
step_fetch_from proc s (fetch.Instruction i) =
    if lacks_stream proc (control_of s i) then fetch.Trap kind.Create else fetch.Instruction i

-- rest where the stream does not run; a trap where there is no word, no instruction or no stream for a CREATE, in
-- this order; else the instruction at the pc
unfoldable pub step_fetch : ImageValue → ProcessorValue → StreamValue → Fetch
step_fetch image proc s = step_fetch_from proc s (image_fetch image s)

abbrev pub step_fetch_at : ImageValue → ProcessorValue → Option StreamValue → Fetch
step_fetch_at image proc None = fetch.Rest
step_fetch_at image proc (Some s) = step_fetch image proc s

-- the same of the stream of this number; rest where there is none
unfoldable pub step_fetch_of : ImageValue → ProcessorValue → ℕ → Fetch
step_fetch_of image proc n = step_fetch_at image proc (slice_get proc.streams n)

-- What it asks.

-- the request by what a step begins with
abbrev pub request_on_fetch : StreamValue → Fetch → Option Request
request_on_fetch s fetch.Rest = None
request_on_fetch s (fetch.Trap k) = None
request_on_fetch s (fetch.Instruction i) = request_of s i

-- the request of a stream; none where there is no such stream
abbrev pub request_at : ImageValue → ProcessorValue → Option StreamValue → Option Request
request_at image proc None = None
request_at image proc (Some s) = request_on_fetch s (step_fetch image proc s)

-- the request that a step of stream n makes of the memory, if any
unfoldable pub request : ImageValue → ProcessorValue → ℕ → Option Request
request image proc n = request_at image proc (slice_get proc.streams n)

abbrev pub next_asking : Option Request → Next
next_asking None = next.Local
next_asking (Some q) = next.Ask q

abbrev pub next_on_fetch : StreamValue → Fetch → Next
next_on_fetch s fetch.Rest = next.Skip
next_on_fetch s (fetch.Trap k) = next.Local
next_on_fetch s (fetch.Instruction i) = next_asking (request_of s i)

abbrev pub next_at : ImageValue → ProcessorValue → Option StreamValue → Next
next_at image proc None = next.Skip
next_at image proc (Some s) = next_on_fetch s (step_fetch image proc s)

-- what a step of stream n needs
unfoldable pub next_of : ImageValue → ProcessorValue → ℕ → Next
next_of image proc n = next_at image proc (slice_get proc.streams n)

-- the same, with what the step begins with
abbrev pub next_step_of : ImageValue → ProcessorValue → ℕ → NextStep
next_step_of image proc n = record { next = next_of image proc n; fetch = step_fetch_of image proc n }

-- What it leaves.

-- the number of streams that RESERVE is granted
abbrev pub grant_of : ImageValue → ProcessorValue → Control → ℕ
grant_of image proc asks.Plain = 0
grant_of image proc (asks.Reserve n) = min n (image.slim - proc.sres)
grant_of image proc (asks.Create child) = 0
grant_of image proc asks.Quit = 0
grant_of image proc asks.QuitKeep = 0

-- the processor with this stream in a place
abbrev pub with_stream : ProcessorValue → ℕ → StreamValue → ProcessorValue
with_stream proc n s = record proc { streams = slice_set proc.streams n s }

-- the place of the lowest idle stream
abbrev pub lowest_idle : ProcessorValue → ℕ
lowest_idle proc = position_or_len is_idle proc.streams

-- what the instruction of stream n, granted so many streams, then does to its processor
abbrev pub after_control : ProcessorValue → ℕ → ℕ → Control → ProcessorValue
after_control proc n grant asks.Plain = proc
after_control proc n grant (asks.Reserve asked) = record proc { sres = proc.sres + grant }
after_control proc n grant (asks.Create child) =
    record (with_stream proc (lowest_idle proc) (child_stream child)) { scur = proc.scur + 1 }
after_control proc n grant asks.Quit =
    record (with_stream proc n idle) { scur = proc.scur - 1; sres = proc.sres - 1 }
after_control proc n grant asks.QuitKeep = record (with_stream proc n idle) { scur = proc.scur - 1 }

-- it happens where the instruction is done
abbrev pub after_control_if_done : ProcessorValue → ℕ → ℕ → Control → Outcome → ProcessorValue
after_control_if_done proc n grant asking outcome.Skipped = proc
after_control_if_done proc n grant asking outcome.Done = after_control proc n grant asking
after_control_if_done proc n grant asking outcome.Blocked = proc
after_control_if_done proc n grant asking (outcome.Trapped k) = proc
after_control_if_done proc n grant asking (outcome.Stopped k) = proc

-- the processor with the stream after its step, and the outcome
abbrev pub put_back : ProcessorValue → ℕ → StreamValue × Outcome → ProcessorValue × Outcome
put_back proc n e = (with_stream proc n e.0, e.1)

-- by what the step of the stream begins with
abbrev pub row_on_fetch : ImageValue → ProcessorValue → ℕ → Option Reply → StreamValue → Fetch
    → ProcessorValue × Outcome
row_on_fetch image proc n reply s fetch.Rest = (proc, outcome.Skipped)
row_on_fetch image proc n reply s (fetch.Trap k) = put_back proc n (after_trap k 0 s)
row_on_fetch image proc n reply s (fetch.Instruction i) =
    let asking = control_of s i in
    let grant = grant_of image proc asking in
    let e = row_asking image.retry_limit s i grant reply (request_of s i) in
    (after_control_if_done (with_stream proc n e.0) n grant asking e.1, e.1)

-- the row of a stream; all stays where there is no such stream
abbrev pub row_at : ImageValue → ProcessorValue → ℕ → Option Reply → Option StreamValue → ProcessorValue × Outcome
row_at image proc n reply None = (proc, outcome.Skipped)
row_at image proc n reply (Some s) = row_on_fetch image proc n reply s (step_fetch image proc s)

-- the processor after a step of stream n with this reply, none where it asks nothing; and the outcome
unfoldable pub row : ImageValue → ProcessorValue → ℕ → Option Reply → ProcessorValue × Outcome
row image proc n reply = row_at image proc n reply (slice_get proc.streams n)

-- Over a memory.

-- the memory after it answers what a step asks, and its reply
abbrev pub memory_reply : TaggedMemory → Option Request → TaggedMemory × Option Reply
memory_reply m None = (m, None)
memory_reply m (Some q) = ((answer m q).0, Some (answer m q).1)

-- the processor after a step of stream n whose request this memory answers, the outcome, and the memory
unfoldable pub row_over_memory : ImageValue → ProcessorValue → ℕ → TaggedMemory
    → (ProcessorValue × Outcome) × TaggedMemory
row_over_memory image proc n m =
    let e = memory_reply m (request image proc n) in
    (row image proc n e.1, e.0)
