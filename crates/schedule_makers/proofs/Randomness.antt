-- A place by a word, and the generator's next state.
use Rattle.std.proofs.Common.{◌≡◌, ℕ, zero, suc, ◌*◌, ◌/◌, ◌^◌, ◌<◌, refl, sym, ap, ◌∙◌, subst, arith, lit<}
use Rattle.std.proofs.Common.{List, [], ◌∷◌, ◌++◌, length, Some, None, add-one}
use Rattle.std.specs.Prelude.{Contains, slice_get}
use Rattle.std.proofs.Math.Nat.{mod-lt, mul_comm, div-lt_iff_lt-mul, mul-lt-mul_of_pos_right}
use Rattle.std.proofs.lemmas.List.{length_push}
use Rattle.processor.specs.declared.steps.Step.{Step}
use Rattle.rand_xoshiro.specs.SplitMix64.{splitmix_seed}
use Rattle.rand_xoshiro.specs.Xoshiro256.{of_seed, plus_plus}
use Rattle.schedule_makers.specs.Randomness.{generator_after, random_word, step_by_word}
use Rattle.schedule_makers.proofs.Rules.{contains-get}

-- The generator.

pub first-state : (seed : ℕ) → of_seed (splitmix_seed 32 seed) ≡ generator_after seed 0
unfolding generator_after
first-state seed = refl

-- the word behind those of the steps before
pub word-drawn : (seed : ℕ) (before : List Step) (word : ℕ) (old new : List ℕ)
    → old ≡ generator_after seed (length before) → (word, new) ≡ plus_plus old
    → word ≡ random_word seed (length before)
unfolding random_word
word-drawn seed before word old new was stepped = ap (λ (x : ℕ × List ℕ). x.0) (stepped ∙ ap plus_plus was)

pub next-state : (seed : ℕ) (before : List Step) (t : Step) (word : ℕ) (old new : List ℕ)
    → old ≡ generator_after seed (length before) → (word, new) ≡ plus_plus old
    → new ≡ generator_after seed (length (before ++ t ∷ []))
unfolding generator_after
next-state seed before t word old new was stepped =
    let more : length (before ++ t ∷ []) ≡ suc (length before) = length_push before t ∙ add-one (length before) in
    ap (λ (x : ℕ × List ℕ). x.1) (stepped ∙ ap plus_plus was) ∙ sym (ap (generator_after seed) more)

-- The place.

pub word-small : (seed k : ℕ) → random_word seed k < 2 ^ 64
unfolding random_word
word-small seed k = mod-lt _ (lit< tt)

place-small : (word count : ℕ) → word < 2 ^ 64 → 0 < count → word * count / 2 ^ 64 < count
place-small word count small some =
    let product : word * count < 2 ^ 64 * count = mul-lt-mul_of_pos_right small some in
    let turned : word * count < count * 2 ^ 64 =
    subst (λ n. word * count < n) (mul_comm (2 ^ 64) count) product in
    (div-lt_iff_lt-mul {k = 2 ^ 64} {x = word * count} {y = count} (lit< tt)).1 turned

there : (xs : List Step) (k : ℕ) → k < length xs → slice_get xs k ≡ None → ⊥
there [] k below e = omega arith
there (x ∷ xs) zero below e = cc
there (x ∷ xs) (suc k) below e = there xs k (omega (arith, below)) e

empty_or_there : (xs : List Step) (k : ℕ) → (0 < length xs → k < length xs) → slice_get xs k ≡ None → xs ≡ []
empty_or_there [] k within e = refl
empty_or_there (x ∷ xs) k within e = absurd (there (x ∷ xs) k (within (omega arith)) e)

-- By a word.

pub by-word-one : (word : ℕ) (ts : List Step) (t : Step) → step_by_word word ts ≡ Some t → Contains ts t
by-word-one word ts t e = contains-get ts (word * length ts / 2 ^ 64) t e

pub by-word-any : (word : ℕ) (ts : List Step) → word < 2 ^ 64 → step_by_word word ts ≡ None → ts ≡ []
by-word-any word ts small e = empty_or_there ts (word * length ts / 2 ^ 64) (place-small word (length ts) small) e
