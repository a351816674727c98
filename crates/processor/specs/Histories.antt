-- What was asked of a memory, in order, with its replies: the memory that it leaves, and the part of each processor.
use Rattle.std.specs.Prelude.{ℕ, ◌≡◌, ◌==◌, List, [], ◌∷◌, if◌then◌else◌}
use Rattle.tag_memory.specs.Storage.{TaggedMemory}
use Rattle.tag_memory.specs.Answer.{answer}
use Rattle.image_file.specs.ImageValue.{ImageValue}
use Rattle.processor.specs.World.{image_memory}
use Rattle.processor.specs.declared.steps.Step.{Step}
use Rattle.processor.specs.declared.steps.Asked.{Asked}
use Rattle.processor.specs.declared.steps.Entry.{Entry}

-- a memory after the requests of a history
abbrev pub memory_after : TaggedMemory → List Entry → TaggedMemory
memory_after m [] = m
memory_after m (e ∷ es) = memory_after (answer m e.request).0 es

-- each reply is the memory's at its place
abbrev pub IsLegalFrom : TaggedMemory → List Entry → Type 0
IsLegalFrom m [] = Unit {0}
IsLegalFrom m (e ∷ es) = (e.reply ≡ (answer m e.request).1) × IsLegalFrom (answer m e.request).0 es

-- the image's memory after the requests of a history
abbrev pub replay : ImageValue → List Entry → TaggedMemory
replay image es = memory_after (image_memory image) es

-- a history that the image's memory can have
abbrev pub IsLegal : ImageValue → List Entry → Type 0
IsLegal image es = IsLegalFrom (image_memory image) es

-- an entry without its processor
abbrev pub pair_of : Entry → Asked
pair_of e = record { s = e.s; request = e.request; reply = e.reply }

-- a processor's entries, in order
abbrev pub pairs_of : ℕ → List Entry → List Asked
pairs_of p [] = []
pairs_of p (e ∷ es) = if e.p == p then pair_of e ∷ pairs_of p es else pairs_of p es

-- the streams that a processor's steps step, in order
abbrev pub steps_of : ℕ → List Step → List ℕ
steps_of p [] = []
steps_of p (t ∷ ts) = if t.p == p then t.s ∷ steps_of p ts else steps_of p ts

-- the other way: a step and an entry of processor p
abbrev pub step_by : ℕ → ℕ → Step
step_by p s = record { p = p; s = s }

abbrev pub entry_by : ℕ → Asked → Entry
entry_by p r = record { p = p; s = r.s; request = r.request; reply = r.reply }
