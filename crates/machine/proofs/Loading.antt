-- The processors of a new machine.
use Rattle.std.proofs.Common.{◌≡◌, ℕ, zero, suc, ◌+◌, ◌<◌, ◌≤◌, sym, ap, ◌∙◌, subst, arith, List, [], ◌∷◌}
use Rattle.std.proofs.Common.{◌++◌, length, take, get_or, map, slice_index}
use Rattle.std.proofs.lemmas.List.{length-map, take_more, take_all, map-append}
use Rattle.processor.specs.ImageFile.ImageValue.{ImageValue}
use Rattle.processor.specs.TagMemory.Storage.{TaggedMemory, memory_with_chain}
use Rattle.processor.specs.TagMemory.Cell.{Cell}
use Rattle.processor.specs.World.{start}
use Rattle.processor.specs.Processors.{ProcessorValue, opening}
use Rattle.processor.proofs.Opening.{opening-length}
use Rattle.machine.specs.MachineValue.{IsMachine, machine_of}

each_opening : (image : ImageValue) (es : List ℕ) (k : ℕ) (d : ProcessorValue) → k < length (map (opening image) es)
    → length (get_or (map (opening image) es) k d).streams ≡ image.slim
each_opening image [] k d below = absurd (omega arith)
each_opening image (e ∷ es) zero d below = opening-length image e
each_opening image (e ∷ es) (suc k) d below = each_opening image es k d (omega arith)

-- a new machine is one
pub opened : (size : ℕ) (image : ImageValue) (ps : List ProcessorValue) (m : TaggedMemory) → image.slim ≤ size
    → ps ≡ map (opening image) image.entries → IsMachine size (machine_of image ps m)
opened size image ps m within all =
    let P : List ProcessorValue → Type 0 = λ x. IsMachine size (machine_of image x m) in
    subst P (sym all) (record {
      within = within;
      one_each = length-map image.entries (opening image);
      slims = λ k d below. each_opening image image.entries k d below;
    })

-- one more processor is opened
pub opens_more : (image : ImageValue) (ps : List ProcessorValue) (n : ℕ) (p : ProcessorValue)
    → n < length image.entries → ps ≡ map (opening image) (take n image.entries)
    → p ≡ opening image (slice_index image.entries n)
    → ps ++ p ∷ [] ≡ map (opening image) (take (n + 1) image.entries)
opens_more image ps n p below all is =
    ap (λ x. x ++ p ∷ []) all
    ∙ ap (λ x. map (opening image) (take n image.entries) ++ x ∷ []) is
    ∙ sym (map-append (opening image) (take n image.entries) (slice_index image.entries n ∷ []))
    ∙ ap (map (opening image)) (sym (take_more image.entries n 0 below))

-- all are opened
pub all_opened : (image : ImageValue) (ps : List ProcessorValue) (n : ℕ)
    → ps ≡ map (opening image) (take n image.entries) → length image.entries ≤ n
    → ps ≡ map (opening image) image.entries
all_opened image ps n all past = all ∙ ap (map (opening image)) (take_all n image.entries past)

pub at_start : (image : ImageValue) (ps : List ProcessorValue) (m : TaggedMemory) (cells : List Cell) (limit : ℕ)
    → ps ≡ map (opening image) image.entries → m ≡ memory_with_chain cells limit → cells ≡ image.cells
    → limit ≡ image.chain_limit → machine_of image ps m ≡ record { image = image; world = start image }
unfolding start
at_start image ps m cells limit all is same chain =
    let filled = is ∙ λ i. memory_with_chain (same i) (chain i) in
    λ i. record { image = image; world = record { processors = all i; memory = filled i } }
