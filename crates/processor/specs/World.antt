-- All processors over one memory, and the operation table folded over a schedule.
use Rattle.std.specs.Prelude.{ℕ, List, [], ◌∷◌, ◌++◌, map, Option, Some, None, slice_get, slice_set}
use Rattle.tag_memory.specs.declared.requests.Request.{Request}
use Rattle.tag_memory.specs.Storage.{TaggedMemory, memory_with_chain}
use Rattle.tag_memory.specs.Answer.{answer}
use Rattle.image_file.specs.ImageValue.{ImageValue}
use Rattle.stream_core.specs.declared.steps.Outcome.{Outcome}
use Rattle.stream_core.specs.declared.steps.Outcome.TheVariants as outcome
use Rattle.stream_core.specs.Streams.{StreamValue}
use Rattle.processor.specs.Processors.{ProcessorValue, opening, stream_seen}
use Rattle.processor.specs.Row.{request, row_over_memory}
use Rattle.processor.specs.declared.steps.Step.{Step}
use Rattle.processor.specs.declared.steps.Entry.{Entry}

-- the processors by number, and the memory
pub record World : Type 0 where
  pub processors : List ProcessorValue
  pub memory : TaggedMemory

-- the memory of an image before any request
abbrev pub image_memory : ImageValue → TaggedMemory
image_memory image = memory_with_chain image.cells image.chain_limit

-- the world of an image before any step
unfoldable pub start : ImageValue → World
start image = record { processors = map (opening image) image.entries; memory = image_memory image }

-- What is seen of it.

-- the stream of this number of a processor, if there are both
abbrev pub stream_seen_at : ℕ → ℕ → Option ProcessorValue → Option StreamValue
stream_seen_at size s None = None
stream_seen_at size s (Some proc) = stream_seen size proc.streams s

-- the stream of these numbers, where there is room for so many; none where there is no such processor
abbrev pub stream_of : ℕ → World → ℕ → ℕ → Option StreamValue
stream_of size w p s = stream_seen_at size s (slice_get w.processors p)

abbrev pub counts_at : Option ProcessorValue → Option (ℕ × ℕ)
counts_at None = None
counts_at (Some proc) = Some (proc.scur, proc.sres)

-- how many streams of the processor are current, and how many are reserved
abbrev pub counts_of : World → ℕ → Option (ℕ × ℕ)
counts_of w p = counts_at (slice_get w.processors p)

-- One step.

-- the world with a processor and a memory after a step, and the outcome
abbrev pub world_with : World → ℕ → (ProcessorValue × Outcome) × TaggedMemory → World × Outcome
world_with w p e = (record { processors = slice_set w.processors p e.0.0; memory = e.1 }, e.0.1)

-- the step of a processor; all stays where there is no such processor
abbrev pub world_step_at : ImageValue → World → Step → Option ProcessorValue → World × Outcome
world_step_at image w t None = (w, outcome.Skipped)
world_step_at image w t (Some proc) = world_with w t.p (row_over_memory image proc t.s w.memory)

-- the world after a step, and the outcome
unfoldable pub world_step : ImageValue → World → Step → World × Outcome
world_step image w t = world_step_at image w t (slice_get w.processors t.p)

-- the world after a step
abbrev pub after : ImageValue → World → Step → World
after image w t = (world_step image w t).0

-- the outcome of a step
abbrev pub outcome_of : ImageValue → World → Step → Outcome
outcome_of image w t = (world_step image w t).1

-- A schedule.

-- the most steps of a schedule that is read from a text, and of all processors together that run at once
abbrev pub most_steps : ℕ
most_steps = 1000000

-- the world after steps
abbrev pub steps : ImageValue → World → List Step → World
steps image w [] = w
steps image w (t ∷ ts) = steps image (after image w t) ts

-- the world after a schedule, from the image's start
abbrev pub run : ImageValue → List Step → World
run image ts = steps image (start image) ts

-- What it asks of the memory.

-- the entry that a step's request makes in the history, if it makes one
abbrev pub step_entries_asking : World → Step → Option Request → List Entry
step_entries_asking w t None = []
step_entries_asking w t (Some q) = record { p = t.p; s = t.s; request = q; reply = (answer w.memory q).1 } ∷ []

-- the entries of a step of a processor; none where there is no such processor
abbrev pub step_entries_at : ImageValue → World → Step → Option ProcessorValue → List Entry
step_entries_at image w t None = []
step_entries_at image w t (Some proc) = step_entries_asking w t (request image proc t.s)

-- the entry that a step makes, if it asks; blocked and trapped requests are entries too
unfoldable pub step_entries : ImageValue → World → Step → List Entry
step_entries image w t = step_entries_at image w t (slice_get w.processors t.p)

-- the entries that steps make, in order
abbrev pub history_from : ImageValue → World → List Step → List Entry
history_from image w [] = []
history_from image w (t ∷ ts) = step_entries image w t ++ history_from image (after image w t) ts

-- the entries that a schedule makes, from the image's start
abbrev pub history_of : ImageValue → List Step → List Entry
history_of image ts = history_from image (start image) ts
