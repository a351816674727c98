-- Whether a world is as expected.
use Rattle.std.specs.Prelude.{ℕ, ◌==◌, Bool, true, false, Option, Some, None, slice_get}
use Rattle.std.specs.List.{list_all}
use Rattle.std.specs.Option.{option_and_then}
use Rattle.tag_memory.specs.Storage.{cell_at}
use Rattle.stream_core.specs.Streams.{StreamValue}
use Rattle.stream_core.specs.Traps.{trap_number}
use Rattle.stream_core.specs.declared.steps.Status.{Status}
use Rattle.stream_core.specs.declared.steps.Status.TheVariants as status
use Rattle.machine.specs.Processor.Processors.{ProcessorValue, is_idle}
use Rattle.machine.specs.Processor.World.{World}
use Rattle.expectations.specs.MemoryWords.{is_word, is_compared}
use Rattle.expectations.specs.WordRanges.{word_count, are_words, is_sum}
use Rattle.expectations.specs.declared.expectation.Expectation.{Expectation}
use Rattle.expectations.specs.declared.expectation.Expectation.TheVariants as expect

-- the stream of these numbers, if there are such a processor and such a stream of it
abbrev pub stream_in : World → ℕ → ℕ → Option StreamValue
stream_in w p s = option_and_then (λ (d : ProcessorValue). slice_get d.streams s) (slice_get w.processors p)

abbrev pub is_number : ℕ → Option ℕ → Bool
is_number value None = false
is_number value (Some n) = n == value

-- whether a stream is there, and holds this value in this register
abbrev pub holds_in_register : ℕ → ℕ → Option StreamValue → Bool
holds_in_register r value None = false
holds_in_register r value (Some s) = is_number value (slice_get s.registers r)

abbrev pub is_stop_by : ℕ → Status → Bool
is_stop_by trap status.Idle = false
is_stop_by trap status.Running = false
is_stop_by trap (status.Stopped k) = trap_number k == trap

-- whether a stream is there, and was stopped by the trap of this number
abbrev pub is_stopped_by : ℕ → Option StreamValue → Bool
is_stopped_by trap None = false
is_stopped_by trap (Some s) = is_stop_by trap s.status

-- whether no stream of a processor runs and none was stopped: each is idle
abbrev pub all_idle : ProcessorValue → Bool
all_idle proc = list_all is_idle proc.streams

-- the same of each processor
abbrev pub is_finished : World → Bool
is_finished w = list_all all_idle w.processors

-- whether a world is as an expectation says; a word or a stream that is not there is not as expected, and each world is as
-- one says that allows something
abbrev pub is_met : World → Expectation → Bool
is_met w (expect.Word a value state) = is_word value state (cell_at w.memory a)
is_met w (expect.Words a b value state) = are_words value state w.memory a (word_count a b)
is_met w (expect.Sum a b value) = is_sum value w.memory a (word_count a b)
is_met w (expect.Compared a r b more) = is_compared r more (cell_at w.memory a) (cell_at w.memory b)
is_met w (expect.Register p s r value) = holds_in_register r value (stream_in w p s)
is_met w expect.Finished = is_finished w
is_met w (expect.Stopped p s trap) = is_stopped_by trap (stream_in w p s)
is_met w (expect.Waits p s first last) = true
is_met w expect.Loops = true

-- the same of a processor that may be missing, for the code
abbrev pub all_idle_at : Option ProcessorValue → Bool
all_idle_at None = true
all_idle_at (Some proc) = all_idle proc
