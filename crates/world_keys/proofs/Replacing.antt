-- The numbers of a processor of which one stream changed, from those before.
use Rattle.std.proofs.Common.{◌≡◌, ℕ, zero, suc, ◌+◌, ◌*◌, ◌<◌, ◌≤◌, Bool, true, false, refl, sym, ap, ◌∙◌, arith, subst}
use Rattle.std.proofs.Common.{List, [], ◌∷◌, ◌++◌, length, get_or, set, cond, slice_get, Some, inl, inr, not}
use Rattle.std.proofs.Common.{length-set, ◌⊎◌}
use Rattle.std.proofs.lemmas.Bool.{cases_Bool, cases_lt}
use Rattle.std.proofs.lemmas.List.{get_or-set_other}
use Rattle.std.proofs.lemmas.Option.{get_or_from_slice_get}
use Rattle.image_file.specs.ImageValue.{ImageValue}
use Rattle.stream_core.specs.Streams.{StreamValue, idle}
use Rattle.processor.specs.Processors.{ProcessorValue, is_idle, count_current, stream_at}
use Rattle.world_keys.specs.Tables.{place_in, Has, Extends}
use Rattle.world_keys.specs.StreamNumbers.{stream_numbers}
use Rattle.world_keys.specs.WorldKeys.{stream_marks, processor_numbers, IsKnownStream, IsHeld}
use Rattle.world_keys.proofs.Places.{place_get}
use Rattle.world_keys.proofs.Marks.{known_kept, numbers_kept}

-- Where marks stand.

-- a mark that is not the first is of a later stream
later_mark : (n q : ℕ) (ms : List ℕ) (k a : ℕ) → ((j : ℕ) → slice_get ms (2 * j) ≡ Some a → n + 1 ≤ a)
    → slice_get (n ∷ q ∷ ms) (2 * k) ≡ Some a → n ≤ a
later_mark n q ms zero a later is = let same : n ≡ a = cc in omega (arith, same)
later_mark n q ms (suc k) a later is =
    let at : 2 * suc k ≡ suc (suc (2 * k)) = omega arith in
    let less = later k (subst (λ j. slice_get (n ∷ q ∷ ms) j ≡ Some a) at is) in
    omega (arith, less)

pub no_mark : (n q : ℕ) (ms : List ℕ) (b : Bool) → b ≡ true → cond b [] (n ∷ q ∷ []) ++ ms ≡ ms
no_mark n q ms true on = refl
no_mark n q ms false on = absurd cc

pub one_mark : (n q : ℕ) (ms : List ℕ) (b : Bool) → b ≡ false → cond b [] (n ∷ q ∷ []) ++ ms ≡ n ∷ q ∷ ms
one_mark n q ms true off = absurd cc
one_mark n q ms false off = refl

-- the streams are numbered from n on
pub from_first : (t : List (List ℕ)) (n : ℕ) (ss : List StreamValue) (k a : ℕ)
    → slice_get (stream_marks t n ss) (2 * k) ≡ Some a → n ≤ a
unfolding stream_marks
from_first t n [] k a is = absurd cc
from_first t n (u ∷ us) k a is =
    let q = place_in t (stream_numbers u) in
    let ms = stream_marks t (n + 1) us in
    elim (cases_Bool (is_idle u)) [
      | inl e ↦
          let more = from_first t (n + 1) us k a (ap (λ xs. slice_get xs (2 * k)) (sym (no_mark n q ms (is_idle u) e)) ∙ is) in
          omega (arith, more)
      | inr e ↦
          later_mark n q ms k a (λ j there. from_first t (n + 1) us j a there)
          (ap (λ xs. slice_get xs (2 * k)) (sym (one_mark n q ms (is_idle u) e)) ∙ is)
    ]

-- One mark is replaced.

first_replaced : (n q place : ℕ) (ms : List ℕ) (c : ℕ) → ((j : ℕ) → slice_get ms (2 * j) ≡ Some (n + 0) → ⊥)
    → slice_get (n ∷ q ∷ ms) (2 * c) ≡ Some (n + 0) → set (n ∷ q ∷ ms) (2 * c + 1) place ≡ n ∷ place ∷ ms
first_replaced n q place ms zero never is = refl
first_replaced n q place ms (suc c) never is =
    let at : 2 * suc c ≡ suc (suc (2 * c)) = omega arith in
    absurd (never c (subst (λ j. slice_get (n ∷ q ∷ ms) j ≡ Some (n + 0)) at is))

later_replaced : (n q place : ℕ) (ms more : List ℕ) (c s : ℕ)
    → ((j : ℕ) → slice_get ms (2 * j) ≡ Some (n + 1 + s) → set ms (2 * j + 1) place ≡ more)
    → slice_get (n ∷ q ∷ ms) (2 * c) ≡ Some (n + suc s) → set (n ∷ q ∷ ms) (2 * c + 1) place ≡ n ∷ q ∷ more
later_replaced n q place ms more zero s later is =
    let same : n ≡ n + suc s = cc in absurd (omega (arith, same))
later_replaced n q place ms more (suc c) s later is =
    let at : 2 * suc c ≡ suc (suc (2 * c)) = omega arith in
    let behind : 2 * suc c + 1 ≡ suc (suc (2 * c + 1)) = omega arith in
    let number : n + suc s ≡ n + 1 + s = omega arith in
    ap (λ k. set (n ∷ q ∷ ms) k place) behind
    ∙ ap (λ xs. n ∷ q ∷ xs)
    (later c (subst (λ j. slice_get (n ∷ q ∷ ms) j ≡ Some (n + suc s)) at is ∙ ap (λ k. Some k) number))

-- the mark of a stream that is not idle, also where it holds something else
pub marks_replaced : (t : List (List ℕ)) (n : ℕ) (ss : List StreamValue) (c s : ℕ) (x : StreamValue)
    → is_idle x ≡ false → slice_get (stream_marks t n ss) (2 * c) ≡ Some (n + s)
    → set (stream_marks t n ss) (2 * c + 1) (place_in t (stream_numbers x)) ≡ stream_marks t n (set ss s x)
unfolding stream_marks
marks_replaced t n [] c s x busy is = absurd cc
marks_replaced t n (u ∷ us) c zero x busy is =
    let q = place_in t (stream_numbers u) in
    let place = place_in t (stream_numbers x) in
    let ms = stream_marks t (n + 1) us in
    let never : (j : ℕ) → slice_get ms (2 * j) ≡ Some (n + 0) → ⊥ =
    λ j there. let more = from_first t (n + 1) us j (n + 0) there in omega (arith, more) in
    elim (cases_Bool (is_idle u)) [
      | inl e ↦ absurd (never c (ap (λ xs. slice_get xs (2 * c)) (sym (no_mark n q ms (is_idle u) e)) ∙ is))
      | inr e ↦
          ap (λ xs. set xs (2 * c + 1) place) (one_mark n q ms (is_idle u) e)
          ∙ first_replaced n q place ms c never
          (ap (λ xs. slice_get xs (2 * c)) (sym (one_mark n q ms (is_idle u) e)) ∙ is)
          ∙ sym (one_mark n place ms (is_idle x) busy)
    ]
marks_replaced t n (u ∷ us) c (suc s) x busy is =
    let q = place_in t (stream_numbers u) in
    let place = place_in t (stream_numbers x) in
    let ms = stream_marks t (n + 1) us in
    let more = stream_marks t (n + 1) (set us s x) in
    let number : n + suc s ≡ n + 1 + s = omega arith in
    elim (cases_Bool (is_idle u)) [
      | inl e ↦
          ap (λ xs. set xs (2 * c + 1) place) (no_mark n q ms (is_idle u) e)
          ∙ marks_replaced t (n + 1) us c s x busy
          (ap (λ xs. slice_get xs (2 * c)) (sym (no_mark n q ms (is_idle u) e)) ∙ is ∙ ap (λ k. Some k) number)
          ∙ sym (no_mark n q more (is_idle u) e)
      | inr e ↦
          ap (λ xs. set xs (2 * c + 1) place) (one_mark n q ms (is_idle u) e)
          ∙ later_replaced n q place ms more c s (λ j there. marks_replaced t (n + 1) us j s x busy there)
          (ap (λ xs. slice_get xs (2 * c)) (sym (one_mark n q ms (is_idle u) e)) ∙ is)
          ∙ sym (one_mark n q more (is_idle u) e)
    ]

-- Processors.

pub kept_on : (b : Bool) → not b ≡ false → b ≡ true
kept_on true off = refl
kept_on false off = absurd cc

-- the numbers of the processor before the step, as they are read at their place
pub before_read : (t : List (List ℕ)) (proc : ProcessorValue) (place : ℕ) (numbers : List ℕ)
    → Has t (processor_numbers t proc) → place ≡ place_in t (processor_numbers t proc)
    → Some numbers ≡ slice_get t place → numbers ≡ processor_numbers t proc
before_read t proc place numbers has place_is at =
    sym (get_or_from_slice_get t place numbers [] (sym at))
    ∙ ap (λ k. get_or t k []) place_is
    ∙ place_get t (processor_numbers t proc) [] has

-- the processor's numbers where its stream s is x now
pub numbers_replaced : (old new : List (List ℕ)) (image : ImageValue) (before after : ProcessorValue) (s c place : ℕ)
    (x : StreamValue) (numbers more : List ℕ) → Extends old new → IsHeld old image before
    → numbers ≡ processor_numbers old before → after.streams ≡ set before.streams s x → is_idle x ≡ false
    → slice_get numbers (2 * c + 1) ≡ Some s → place ≡ place_in new (stream_numbers x)
    → more ≡ set (set numbers 0 after.sres) (2 * c + 2) place → more ≡ processor_numbers new after
numbers_replaced old new image before after s c place x numbers more grown held read streams busy at place_is is =
    let first : 2 * c + 1 ≡ suc (2 * c) = omega arith in
    let second : 2 * c + 2 ≡ suc (2 * c + 1) = omega arith in
    let same : numbers ≡ processor_numbers new before = read ∙ sym (numbers_kept old new image before grown held) in
    let ms = stream_marks new 0 before.streams in
    let number : s ≡ 0 + s = omega arith in
    let there : slice_get ms (2 * c) ≡ Some (0 + s) =
    subst (λ k. slice_get (processor_numbers new before) k ≡ Some s) first
    (ap (λ xs. slice_get xs (2 * c + 1)) (sym same) ∙ at)
    ∙ ap (λ k. Some k) number in
    is
    ∙ (λ i. set (set (same i) 0 after.sres) (second i) (place_is i))
    ∙ ap (λ xs. after.sres ∷ xs) (marks_replaced new 0 before.streams c s x busy there)
    ∙ ap (λ ss. after.sres ∷ stream_marks new 0 ss) (sym streams)

-- what its streams hold is in the table
pub held_replaced : (old new : List (List ℕ)) (image : ImageValue) (before after : ProcessorValue) (s : ℕ)
    (x : StreamValue) → Extends old new → IsHeld old image before → after.streams ≡ set before.streams s x
    → x ≡ stream_at after.streams s → IsKnownStream new x → after.scur ≡ count_current after.streams
    → IsHeld new image after
held_replaced old new image before after s x grown held streams at known counts = record {
  slim = many ∙ held.slim;
  counts = counts;
  streams = λ k below. by_place k below (cases_lt k s) (cases_lt s k);
} where
  many : length after.streams ≡ length before.streams
  many = ap length streams ∙ length-set before.streams s x

  other : (k : ℕ) → k < length after.streams → (k ≡ s → ⊥) → IsKnownStream new (get_or after.streams k idle)
  other k below apart =
      let same : get_or after.streams k idle ≡ get_or before.streams k idle =
      ap (λ xs. get_or xs k idle) streams ∙ get_or-set_other before.streams s k x idle apart in
      subst (IsKnownStream new) (sym same)
      (known_kept old new (get_or before.streams k idle) grown (held.streams k (omega (arith, below, many))))

  by_place : (k : ℕ) → k < length after.streams → (k < s) ⊎ (s ≤ k) → (s < k) ⊎ (k ≤ s)
      → IsKnownStream new (get_or after.streams k idle)
  by_place k below (inl less) c = other k below (λ e. omega (arith, e, less))
  by_place k below (inr past) (inl more) = other k below (λ e. omega (arith, e, more))
  by_place k below (inr past) (inr most) =
      let same : s ≡ k = omega (arith, past, most) in
      subst (λ n. IsKnownStream new (get_or after.streams n idle)) same (subst (IsKnownStream new) at known)
