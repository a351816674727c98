-- What is read of two machines over one image.
use Rattle.std.proofs.Common.{◌≡◌, ℕ, ◌*◌, ◌/◌, ◌%◌, ◌<◌, refl, sym, ap, ◌∙◌, arith, true, false, cond, ltb}
use Rattle.std.proofs.Common.{length, Option, Some, None, slice_get, IsSome, is_some, Bor, option_copied}
use Rattle.std.proofs.lemmas.Bool.{lt-ltb}
use Rattle.std.proofs.lemmas.Option.{slice_get-get_or}
use Rattle.tag_memory.specs.Cell.{Cell, cell_of, tag_number}
use Rattle.tag_memory.specs.Storage.{TaggedMemory, cell_at}
use Rattle.image_file.specs.ImageValue.{ImageValue}
use Rattle.image_file.specs.SameLaws.{cell_of-tag_number}
use Rattle.stream_core.specs.Streams.{StreamValue, idle}
use Rattle.processor.specs.Processors.{stream_at}
use Rattle.processor.specs.World.{stream_of, stream_seen_at, counts_of, counts_at}
use Rattle.machine.specs.MachineValue.{MachineValue, IsMachine}
use Rattle.whole_runs.specs.Differences.{IsMemoryOf}
use Rattle.whole_runs.specs.SameWorlds.{processor_in, no_processor}

pub here : (size : ℕ) (m : MachineValue) (p : ℕ) → IsMachine size m → p < length m.image.entries
    → slice_get m.world.processors p ≡ Some (processor_in m.world p)
here size m p machine below = slice_get-get_or m.world.processors p no_processor (omega (arith, machine.one_each, below))

pub slims : (size : ℕ) (m : MachineValue) (p : ℕ) → IsMachine size m → p < length m.image.entries
    → length (processor_in m.world p).streams ≡ m.image.slim
slims size m p machine below = machine.slims p no_processor (omega (arith, machine.one_each, below))

-- the counts of a processor that is there
pub counted : (size : ℕ) (m : MachineValue) (p : ℕ) → IsMachine size m → p < length m.image.entries
    → counts_of m.world p ≡ Some ((processor_in m.world p).scur, (processor_in m.world p).sres)
counted size m p machine below = ap counts_at (here size m p machine below)

-- the stream that is seen is the one in the list
pub seen : (size : ℕ) (m : MachineValue) (p s : ℕ) (x : StreamValue) → IsMachine size m → p < length m.image.entries
    → s < m.image.slim → stream_of size m.world p s ≡ Some x
    → slice_get (processor_in m.world p).streams s ≡ Some x
seen size m p s x machine below within is =
    let streams = (processor_in m.world p).streams in
    let many : length streams ≡ m.image.slim = slims size m p machine below in
    let room : ltb s size ≡ true = lt-ltb s size (omega (arith, machine.within, within)) in
    let at : stream_of size m.world p s ≡ Some (stream_at streams s) =
    ap (stream_seen_at size s) (here size m p machine below)
    ∙ ap (λ b. cond b (Some (stream_at streams s)) None) room in
    slice_get-get_or streams s idle (omega (arith, many, within)) ∙ sym at ∙ is

-- a stream below the image's slim is seen
copied_some : {A : Type 0} (o : Option (Bor A)) (x : A) → option_copied o ≡ Some x → IsSome o
copied_some None x e = absurd (let f : ⊥ = cc in f)
copied_some (Some b) x e = refl

pub seen_some : (size : ℕ) (m : MachineValue) (p s : ℕ) (o : Option (Bor StreamValue)) → IsMachine size m
    → p < length m.image.entries → s < m.image.slim → option_copied o ≡ stream_of size m.world p s → IsSome o
seen_some size m p s o machine below within is =
    let streams = (processor_in m.world p).streams in
    let room : ltb s size ≡ true = lt-ltb s size (omega (arith, machine.within, within)) in
    let at : stream_of size m.world p s ≡ Some (stream_at streams s) =
    ap (stream_seen_at size s) (here size m p machine below)
    ∙ ap (λ b. cond b (Some (stream_at streams s)) None) room in
    copied_some o (stream_at streams s) (is ∙ at)

-- Words.

pub cell_at_place : (m : TaggedMemory) (k : ℕ) → cell_at m (k * 8) ≡ slice_get m.cells k
cell_at_place m k =
    let aligned : k * 8 % 8 ≡ 0 = omega arith in
    let back : k * 8 / 8 ≡ k = omega arith in
    rw (aligned, back) refl

pub word_there : (image : ImageValue) (m : TaggedMemory) (k : ℕ) (o : Option Cell) → IsMemoryOf image m
    → k < length image.cells → o ≡ cell_at m (k * 8) → IsSome o
word_there image m k o of below is =
    let c : Cell = record { value = 0; full = false; forward = false; trap0 = false; trap1 = false } in
    ap is_some (is ∙ cell_at_place m k ∙ slice_get-get_or m.cells k c (omega (arith, of.cells)))

pub cells_same : (c d : Cell) → c.value ≡ d.value → tag_number c ≡ tag_number d → c ≡ d
cells_same c d value tags =
    sym (cell_of-tag_number c) ∙ (λ i. cell_of (value i) (tags i)) ∙ cell_of-tag_number d
