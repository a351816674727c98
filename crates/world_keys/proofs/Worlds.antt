-- A world is told by its key.
use Rattle.std.proofs.Common.{◌≡◌, ℕ, suc, ◌+◌, ◌<◌, ◌≤◌, refl, sym, ap, ◌∙◌, arith, subst, List, [], ◌∷◌, ◌++◌}
use Rattle.std.proofs.Common.{length, map, get_or, take, ◌⊎◌, inl, inr}
use Rattle.std.proofs.lemmas.Bool.{cases_lt}
use Rattle.std.proofs.lemmas.List.{map_more, length-take-le, get_or-take}
use Rattle.image_file.specs.ImageValue.{ImageValue}
use Rattle.processor.specs.Processors.{ProcessorValue}
use Rattle.processor.specs.World.{World}
use Rattle.world_keys.specs.Tables.{place_in, Has, Extends}
use Rattle.world_keys.specs.MemoryNumbers.{memory_numbers}
use Rattle.world_keys.specs.WorldKeys.{processor_place, key_of, IsKnownProcessor, IsKnown}
use Rattle.world_keys.specs.WorldKeys.{no_processor}
use Rattle.world_keys.proofs.Places.{place_same, place_extended, has_extended}
use Rattle.world_keys.proofs.Memories.{same_memory}
use Rattle.world_keys.proofs.Marks.{same_processor, place_kept, processor_kept}

-- what the processors of a list hold is in the table
abbrev pub AreKnown : List (List ℕ) → ImageValue → List ProcessorValue → Type 0
AreKnown table image ps = (k : ℕ) → k < length ps → IsKnownProcessor table image (get_or ps k no_processor)

tail_known : (t : List (List ℕ)) (image : ImageValue) (p : ProcessorValue) (ps : List ProcessorValue)
    → AreKnown t image (p ∷ ps) → AreKnown t image ps
tail_known t image p ps known k below = known (suc k) (omega arith)

same_processors : (t : List (List ℕ)) (image : ImageValue) (ps qs : List ProcessorValue) → AreKnown t image ps
    → AreKnown t image qs → map (processor_place t) ps ≡ map (processor_place t) qs → ps ≡ qs
same_processors t image [] [] one other same = refl
same_processors t image [] (q ∷ qs) one other same = absurd cc
same_processors t image (p ∷ ps) [] one other same = absurd cc
same_processors t image (p ∷ ps) (q ∷ qs) one other same =
    let places : processor_place t p ≡ processor_place t q = cc in
    let tails : map (processor_place t) ps ≡ map (processor_place t) qs = cc in
    let here = same_processor t image p q (one 0 (omega arith)) (other 0 (omega arith)) places in
    let rest = same_processors t image ps qs (tail_known t image p ps one) (tail_known t image q qs other) tails in
    λ i. here i ∷ rest i

-- worlds of one key are the same
pub same_world : (t : List (List ℕ)) (image : ImageValue) (w v : World) → IsKnown t image w → IsKnown t image v
    → key_of t image w ≡ key_of t image v → w ≡ v
same_world t image w v one other same =
    let places : place_in t (memory_numbers image w.memory) ≡ place_in t (memory_numbers image v.memory) = cc in
    let tails : map (processor_place t) w.processors ≡ map (processor_place t) v.processors = cc in
    let numbers =
    place_same t (memory_numbers image w.memory) (memory_numbers image v.memory) one.numbers other.numbers places in
    let memory = same_memory image w.memory v.memory one.memory other.memory numbers in
    let processors = same_processors t image w.processors v.processors one.processors other.processors tails in
    λ i. record { processors = processors i; memory = memory i }

-- The same where the table is extended.

pub places_kept : (old new : List (List ℕ)) (image : ImageValue) (ps : List ProcessorValue) → Extends old new
    → AreKnown old image ps → map (processor_place new) ps ≡ map (processor_place old) ps
places_kept old new image [] grown known = refl
places_kept old new image (p ∷ ps) grown known =
    let here = place_kept old new image p grown (known 0 (omega arith)) in
    let rest = places_kept old new image ps grown (tail_known old image p ps known) in
    λ i. here i ∷ rest i

pub key_kept : (old new : List (List ℕ)) (image : ImageValue) (w : World) → Extends old new → IsKnown old image w
    → key_of new image w ≡ key_of old image w
key_kept old new image w grown known =
    let memory = place_extended old new (memory_numbers image w.memory) grown known.numbers in
    let rest = places_kept old new image w.processors grown known.processors in
    λ i. memory i ∷ rest i

pub known_kept : (old new : List (List ℕ)) (image : ImageValue) (w : World) → Extends old new → IsKnown old image w
    → IsKnown new image w
known_kept old new image w grown known = record {
  memory = known.memory;
  numbers = has_extended old new (memory_numbers image w.memory) grown known.numbers;
  one_each = known.one_each;
  processors =
      λ p below. processor_kept old new image (get_or w.processors p no_processor) grown (known.processors p below);
}

-- One processor more.

-- the processors before this one
abbrev pub AreKnownBelow : List (List ℕ) → ImageValue → List ProcessorValue → ℕ → Type 0
AreKnownBelow table image ps n = (k : ℕ) → k < n → IsKnownProcessor table image (get_or ps k no_processor)

taken : (t : List (List ℕ)) (image : ImageValue) (ps : List ProcessorValue) (n : ℕ) → n ≤ length ps
    → AreKnownBelow t image ps n → AreKnown t image (take n ps)
taken t image ps n within known k below =
    let less : k < n = omega (arith, length-take-le n ps within) in
    subst (IsKnownProcessor t image) (sym (get_or-take n ps k no_processor less)) (known k less)

pub known_more : (old new : List (List ℕ)) (image : ImageValue) (ps : List ProcessorValue) (n : ℕ) → Extends old new
    → AreKnownBelow old image ps n → IsKnownProcessor new image (get_or ps n no_processor)
    → AreKnownBelow new image ps (n + 1)
known_more old new image ps n grown known last k below = by_case (cases_lt k n) where
  by_case : (k < n) ⊎ (n ≤ k) → IsKnownProcessor new image (get_or ps k no_processor)
  by_case (inl less) = processor_kept old new image (get_or ps k no_processor) grown (known k less)
  by_case (inr most) =
      let same : n ≡ k = omega arith in subst (λ j. IsKnownProcessor new image (get_or ps j no_processor)) same last

pub key_more : (old new : List (List ℕ)) (image : ImageValue) (ps : List ProcessorValue) (n place : ℕ)
    (ns key more : List ℕ) → Extends old new → n < length ps → AreKnownBelow old image ps n → Has old ns
    → key ≡ place_in old ns ∷ map (processor_place old) (take n ps)
    → place ≡ processor_place new (get_or ps n no_processor) → more ≡ key ++ place ∷ []
    → more ≡ place_in new ns ∷ map (processor_place new) (take (n + 1) ps)
key_more old new image ps n place ns key more grown below known has so_far at is =
    let first = place_extended old new ns grown has in
    let kept = places_kept old new image (take n ps) grown (taken old image ps n (omega arith) known) in
    let one = map_more (processor_place new) ps n no_processor below in
    is
    ∙ (λ i. (so_far ∙ (λ j. sym first j ∷ sym kept j)) i ++ at i ∷ [])
    ∙ ap (λ x. place_in new ns ∷ x) (sym one)
