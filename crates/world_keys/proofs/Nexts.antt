-- The key of a world from that of the world before a step.
use Rattle.std.proofs.Common.{◌≡◌, ℕ, suc, ◌+◌, ◌<◌, ◌≤◌, true, sym, ap, ◌∙◌, arith, subst, List, ◌∷◌}
use Rattle.std.proofs.Common.{length, map, get_or, set, ◌⊎◌, inl, inr, length-set}
use Rattle.std.proofs.lemmas.Bool.{cases_lt}
use Rattle.std.proofs.lemmas.List.{map-set, length-map, get_or-map, get_or-set_other}
use Rattle.image_file.specs.ImageValue.{ImageValue}
use Rattle.processor.specs.Processors.{ProcessorValue}
use Rattle.processor.specs.World.{World}
use Rattle.world_keys.specs.Tables.{place_in, Has, Extends}
use Rattle.world_keys.specs.MemoryNumbers.{memory_numbers}
use Rattle.world_keys.specs.declared.next_keys.Change.{Change}
use Rattle.world_keys.specs.Changes.{IsPlaceBefore, IsKeyBefore}
use Rattle.world_keys.specs.WorldKeys.{processor_in, processor_place, key_of, IsMemoryOf, IsKnownProcessor, IsKnown}
use Rattle.world_keys.specs.WorldKeys.{no_processor}
use Rattle.world_keys.proofs.Places.{place_extended, has_extended, extends_trans}
use Rattle.world_keys.proofs.Marks.{processor_kept, place_kept}
use Rattle.world_keys.proofs.Worlds.{places_kept}

-- the memory's place before the step is that after it, where the memory is kept
pub memory_before : (t : List (List ℕ)) (image : ImageValue) (w : World) (n : ℕ) (c : Change) (key : List ℕ)
    → (b : IsKeyBefore t image w c key) → n ≡ get_or key 0 0 → c.is_memory_kept ≡ true
    → n ≡ place_in t (memory_numbers image w.memory)
memory_before t image w n c key b is on =
    is
    ∙ ap (λ xs. get_or xs 0 0) b.is_key
    ∙ sym (ap (λ m. place_in t (memory_numbers image m)) (b.memory on))

pub memory_there : (t : List (List ℕ)) (image : ImageValue) (w : World) (c : Change) (key : List ℕ)
    → (b : IsKeyBefore t image w c key) → c.is_memory_kept ≡ true → Has t (memory_numbers image w.memory)
memory_there t image w c key b on =
    subst (λ m. Has t (memory_numbers image m)) (sym (b.memory on)) b.known.numbers

-- as many numbers as processors, and one for the memory
pub key_length : (t : List (List ℕ)) (image : ImageValue) (w : World) (c : Change) (key : List ℕ)
    → (b : IsKeyBefore t image w c key) → length key ≡ length w.processors + 1
key_length t image w c key b =
    omega (
      arith,
      ap length b.is_key,
      length-map b.before.processors (processor_place t),
      ap length b.others,
      length-set b.before.processors c.step.p (processor_in w c.step.p),
    )

set_second : (n : ℕ) (ns : List ℕ) (p place : ℕ) → set (n ∷ ns) (p + 1) place ≡ n ∷ set ns p place
set_second n ns p place = let at : p + 1 ≡ suc p = omega arith in ap (λ k. set (n ∷ ns) k place) at

pub next_is : (old mid new : List (List ℕ)) (image : ImageValue) (w : World) (memory place : ℕ) (c : Change)
    (key more : List ℕ) → (b : IsKeyBefore old image w c key) → Extends old mid → Extends mid new
    → memory ≡ place_in mid (memory_numbers image w.memory) → Has mid (memory_numbers image w.memory)
    → place ≡ processor_place new (processor_in w c.step.p)
    → more ≡ set (set key 0 memory) (c.step.p + 1) place
    → more ≡ key_of new image w
next_is old mid new image w memory place c key more b first second memory_is has place_is is =
    let p = c.step.p in
    let ps = b.before.processors in
    let same : map (processor_place new) ps ≡ map (processor_place old) ps =
    places_kept old new image ps (extends_trans old mid new first second) b.known.processors in
    let memory_new : memory ≡ place_in new (memory_numbers image w.memory) =
    memory_is ∙ sym (place_extended mid new (memory_numbers image w.memory) second has) in
    let rest : set (map (processor_place old) ps) p place ≡ map (processor_place new) w.processors =
    (λ i. set (sym same i) p (place_is i))
    ∙ sym (map-set (processor_place new) ps p (processor_in w p))
    ∙ ap (map (processor_place new)) (sym b.others) in
    is
    ∙ ap (λ xs. set (set xs 0 memory) (p + 1) place) b.is_key
    ∙ set_second memory (map (processor_place old) ps) p place
    ∙ (λ i. memory_new i ∷ rest i)

pub next_known : (old mid new : List (List ℕ)) (image : ImageValue) (w : World) (c : Change) (key : List ℕ)
    → (b : IsKeyBefore old image w c key) → IsMemoryOf image w.memory → Extends old mid → Extends mid new
    → Has mid (memory_numbers image w.memory) → IsKnownProcessor new image (processor_in w c.step.p) → IsKnown new image w
next_known old mid new image w c key b of first second has one = record {
  memory = of;
  numbers = has_extended mid new (memory_numbers image w.memory) second has;
  one_each = many ∙ b.known.one_each;
  processors = λ k below. by_place k below (cases_lt k p) (cases_lt p k);
} where
  p : ℕ
  p = c.step.p

  ps : List ProcessorValue
  ps = b.before.processors

  many : length w.processors ≡ length ps
  many = ap length b.others ∙ length-set ps p (processor_in w p)

  other : (k : ℕ) → k < length w.processors → (k ≡ p → ⊥) → IsKnownProcessor new image (get_or w.processors k no_processor)
  other k below apart =
      let at : get_or w.processors k no_processor ≡ get_or ps k no_processor =
      ap (λ xs. get_or xs k no_processor) b.others ∙ get_or-set_other ps p k (processor_in w p) no_processor apart in
      subst (IsKnownProcessor new image) (sym at)
      (processor_kept old new image (get_or ps k no_processor) (extends_trans old mid new first second)
      (b.known.processors k (omega (arith, below, many))))

  by_place : (k : ℕ) → k < length w.processors → (k < p) ⊎ (p ≤ k) → (p < k) ⊎ (k ≤ p)
      → IsKnownProcessor new image (get_or w.processors k no_processor)
  by_place k below (inl less) d = other k below (λ e. omega (arith, e, less))
  by_place k below (inr past) (inl more) = other k below (λ e. omega (arith, e, more))
  by_place k below (inr past) (inr most) =
      let same : p ≡ k = omega (arith, past, most) in
      subst (λ n. IsKnownProcessor new image (get_or w.processors n no_processor)) same one

-- the place of the step's processor before it
pub place_before : (old mid : List (List ℕ)) (image : ImageValue) (w : World) (c : Change) (key : List ℕ) (n : ℕ)
    → (b : IsKeyBefore old image w c key) → Extends old mid → c.step.p < length w.processors
    → n ≡ get_or key (c.step.p + 1) 0 → IsPlaceBefore mid image (processor_in w c.step.p) c n
place_before old mid image w c key n b grown there is = record {
  before = proc;
  known = processor_kept old mid image proc grown known;
  is_place = is ∙ ap (λ xs. get_or xs (p + 1) 0) b.is_key ∙ at ∙ sym (place_kept old mid image proc grown known);
  streams = b.streams;
} where
  p : ℕ
  p = c.step.p

  proc : ProcessorValue
  proc = processor_in b.before p

  below : p < length b.before.processors
  below = omega (arith, there, ap length b.others, length-set b.before.processors p (processor_in w p))

  known : IsKnownProcessor old image proc
  known = b.known.processors p below

  at : get_or (key_of old image b.before) (p + 1) 0 ≡ processor_place old proc
  at =
      let next : p + 1 ≡ suc p = omega arith in
      ap (λ k. get_or (key_of old image b.before) k 0) next
      ∙ get_or-map (processor_place old) b.before.processors p no_processor 0 below
