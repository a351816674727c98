-- The numbers of a processor of which one stream ended, from those before.
use Rattle.std.proofs.Common.{◌≡◌, ℕ, zero, suc, ◌+◌, ◌*◌, true, refl, sym, ap, ◌∙◌, arith, subst}
use Rattle.std.proofs.Common.{List, [], ◌∷◌, ◌++◌, set, slice_get, Some, inl, inr, take, drop}
use Rattle.std.proofs.lemmas.Bool.{cases_Bool}
use Rattle.stream_core.specs.Streams.{StreamValue, idle}
use Rattle.processor.specs.Processors.{ProcessorValue, is_idle, stream_at, IsCounted}
use Rattle.world_keys.specs.Tables.{place_in}
use Rattle.world_keys.specs.StreamNumbers.{stream_numbers}
use Rattle.world_keys.specs.WorldKeys.{stream_marks, processor_numbers}
use Rattle.world_keys.proofs.Replacing.{no_mark, one_mark, from_first}

-- a list without the two numbers behind so many
abbrev pub without_two : ℕ → List ℕ → List ℕ
without_two k ns = take k ns ++ drop (k + 2) ns

first_removed : (n q : ℕ) (ms : List ℕ) (c : ℕ) → ((j : ℕ) → slice_get ms (2 * j) ≡ Some (n + 0) → ⊥)
    → slice_get (n ∷ q ∷ ms) (2 * c) ≡ Some (n + 0) → without_two (2 * c) (n ∷ q ∷ ms) ≡ ms
first_removed n q ms zero never is = refl
first_removed n q ms (suc c) never is =
    let at : 2 * suc c ≡ suc (suc (2 * c)) = omega arith in
    absurd (never c (subst (λ j. slice_get (n ∷ q ∷ ms) j ≡ Some (n + 0)) at is))

later_removed : (n q : ℕ) (ms more : List ℕ) (c s : ℕ)
    → ((j : ℕ) → slice_get ms (2 * j) ≡ Some (n + 1 + s) → without_two (2 * j) ms ≡ more)
    → slice_get (n ∷ q ∷ ms) (2 * c) ≡ Some (n + suc s) → without_two (2 * c) (n ∷ q ∷ ms) ≡ n ∷ q ∷ more
later_removed n q ms more zero s later is = let same : n ≡ n + suc s = cc in absurd (omega (arith, same))
later_removed n q ms more (suc c) s later is =
    let at : 2 * suc c ≡ suc (suc (2 * c)) = omega arith in
    let behind : 2 * suc c + 2 ≡ suc (suc (2 * c + 2)) = omega arith in
    let number : n + suc s ≡ n + 1 + s = omega arith in
    (λ i. take (at i) (n ∷ q ∷ ms) ++ drop (behind i) (n ∷ q ∷ ms))
    ∙ ap (λ xs. n ∷ q ∷ xs)
    (later c (subst (λ j. slice_get (n ∷ q ∷ ms) j ≡ Some (n + suc s)) at is ∙ ap (λ k. Some k) number))

-- the marks without that of a stream that is idle now
pub marks_removed : (t : List (List ℕ)) (n : ℕ) (ss : List StreamValue) (c s : ℕ)
    → slice_get (stream_marks t n ss) (2 * c) ≡ Some (n + s)
    → without_two (2 * c) (stream_marks t n ss) ≡ stream_marks t n (set ss s idle)
unfolding stream_marks
marks_removed t n [] c s is = absurd cc
marks_removed t n (u ∷ us) c zero is =
    let q = place_in t (stream_numbers u) in
    let ms = stream_marks t (n + 1) us in
    let never : (j : ℕ) → slice_get ms (2 * j) ≡ Some (n + 0) → ⊥ =
    λ j there. let more = from_first t (n + 1) us j (n + 0) there in omega (arith, more) in
    elim (cases_Bool (is_idle u)) [
      | inl e ↦ absurd (never c (ap (λ xs. slice_get xs (2 * c)) (sym (no_mark n q ms (is_idle u) e)) ∙ is))
      | inr e ↦
          ap (without_two (2 * c)) (one_mark n q ms (is_idle u) e)
          ∙ first_removed n q ms c never
          (ap (λ xs. slice_get xs (2 * c)) (sym (one_mark n q ms (is_idle u) e)) ∙ is)
    ]
marks_removed t n (u ∷ us) c (suc s) is =
    let q = place_in t (stream_numbers u) in
    let ms = stream_marks t (n + 1) us in
    let more = stream_marks t (n + 1) (set us s idle) in
    let number : n + suc s ≡ n + 1 + s = omega arith in
    elim (cases_Bool (is_idle u)) [
      | inl e ↦
          ap (without_two (2 * c)) (no_mark n q ms (is_idle u) e)
          ∙ marks_removed t (n + 1) us c s
          (ap (λ xs. slice_get xs (2 * c)) (sym (no_mark n q ms (is_idle u) e)) ∙ is ∙ ap (λ k. Some k) number)
          ∙ sym (no_mark n q more (is_idle u) e)
      | inr e ↦
          ap (without_two (2 * c)) (one_mark n q ms (is_idle u) e)
          ∙ later_removed n q ms more c s (λ j there. marks_removed t (n + 1) us j s there)
          (ap (λ xs. slice_get xs (2 * c)) (sym (one_mark n q ms (is_idle u) e)) ∙ is)
          ∙ sym (one_mark n q more (is_idle u) e)
    ]

-- the processor's numbers where its stream s is idle now
pub numbers_removed : (old : List (List ℕ)) (before after : ProcessorValue) (s c : ℕ) (numbers more : List ℕ)
    → numbers ≡ processor_numbers old before → after.streams ≡ set before.streams s idle
    → slice_get numbers (2 * c + 1) ≡ Some s → more ≡ set (take (2 * c + 1) numbers ++ drop (2 * c + 3) numbers) 0 after.sres
    → more ≡ processor_numbers old after
numbers_removed old before after s c numbers more read streams at is =
    let first : 2 * c + 1 ≡ suc (2 * c) = omega arith in
    let third : 2 * c + 3 ≡ suc (2 * c + 2) = omega arith in
    let ms = stream_marks old 0 before.streams in
    let number : s ≡ 0 + s = omega arith in
    let there : slice_get ms (2 * c) ≡ Some (0 + s) =
    subst (λ k. slice_get (processor_numbers old before) k ≡ Some s) first
    (ap (λ xs. slice_get xs (2 * c + 1)) (sym read) ∙ at)
    ∙ ap (λ k. Some k) number in
    is
    ∙ (λ i. set (take (first i) (read i) ++ drop (third i) (read i)) 0 after.sres)
    ∙ ap (λ xs. after.sres ∷ xs) (marks_removed old 0 before.streams c s there)
    ∙ ap (λ ss. after.sres ∷ stream_marks old 0 ss) (sym streams)

-- an idle stream holds zeros only
pub ended_is : (proc : ProcessorValue) (s : ℕ) (x : StreamValue) → IsCounted proc → x ≡ stream_at proc.streams s
    → is_idle x ≡ true → x ≡ idle
ended_is proc s x counts is off = is ∙ counts.zeros s (ap is_idle (sym is) ∙ off)
