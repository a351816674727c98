-- The tags of one place written into an element, bit by bit.
use Rattle.std.proofs.Common.{◌≡◌, ◌≢◌, ℕ, zero, suc, ◌+◌, ◌-◌, ◌*◌, ◌/◌, ◌%◌, ◌^◌, ◌<◌, ◌≤◌, min, max, refl, sym}
use Rattle.std.proofs.Common.{◌∙◌, ap}
use Rattle.std.proofs.Common.{inl, inr, ◌⊎◌, arith, pow_pos, pow-add, shl_exact, bit_or, bit_and, w64}
use Rattle.std.proofs.Math.Nat.{div-div-eq-div-mul, mul-div_cancel}
use Rattle.std.proofs.lemmas.Bool.{cases_order}
use Rattle.std.proofs.lemmas.Nat.Bits.{bit_at-lt, bit_at-zero, bit_at_and, bit_at_or, bit_at_not, bit_at_above}
use Rattle.std.proofs.lemmas.Nat.Bits.{bit_at_cat_low}
use Rattle.std.specs.Int.{bit_at, bit_not}
use Rattle.tag_memory.specs.Banks.{element_tags}

-- bit i + b is bit b of what stands from bit i up
bit_at-add : (x i b : ℕ) → bit_at x (i + b) ≡ bit_at (x / 2 ^ i) b
bit_at-add x i b =
    ap (λ n. x / n % 2) (pow-add 2 i b) ∙ ap (λ n. n % 2) (sym (div-div-eq-div-mul x (2 ^ i) (2 ^ b)))

same_four : (a b : ℕ) → bit_at a 0 ≡ bit_at b 0 → bit_at a 1 ≡ bit_at b 1 → bit_at a 2 ≡ bit_at b 2
    → bit_at a 3 ≡ bit_at b 3 → a % 16 ≡ b % 16
same_four a b e0 e1 e2 e3 = omega (arith, e0, e1, e2, e3)

-- what has the same four bits at place j
same_tags : (x y j : ℕ) → ((b : ℕ) → b < 4 → bit_at x (4 * j + b) ≡ bit_at y (4 * j + b))
    → element_tags x j ≡ element_tags y j
unfolding element_tags
same_tags x y j same =
    let at : (b : ℕ) → b < 4 → bit_at (x / 2 ^ (4 * j)) b ≡ bit_at (y / 2 ^ (4 * j)) b =
    λ b h. sym (bit_at-add x (4 * j) b) ∙ same b h ∙ bit_at-add y (4 * j) b in
    same_four _ _ (at 0 (omega arith)) (at 1 (omega arith)) (at 2 (omega arith)) (at 3 (omega arith))

-- the bits of n moved up to place i
here : (n i b : ℕ) → bit_at (n * 2 ^ (4 * i)) (4 * i + b) ≡ bit_at n b
here n i b = bit_at-add _ (4 * i) b ∙ ap (λ m. bit_at m b) (mul-div_cancel n (pow_pos (4 * i)))

below : (n s k : ℕ) → k < s → bit_at (n * 2 ^ s) k ≡ 0
below n s k h =
    let same : n * 2 ^ s ≡ n * 2 ^ s + 0 = omega arith in
    ap (λ m. bit_at m k) same ∙ bit_at_cat_low n s 0 k h ∙ bit_at-zero k

above : (n i k : ℕ) → n < 16 → 4 * i + 4 ≤ k → bit_at (n * 2 ^ (4 * i)) k ≡ 0
above n i k few h =
    let up : k ≡ 4 * i + (k - 4 * i) = omega arith in
    ap (λ m. bit_at (n * 2 ^ (4 * i)) m) up ∙ here n i (k - 4 * i) ∙ bit_at_above n 4 (k - 4 * i) few (omega arith)

apart : (n i j b : ℕ) → n < 16 → b < 4 → (j ≢ i) → bit_at (n * 2 ^ (4 * i)) (4 * j + b) ≡ 0
apart n i j b few h other = by_order (cases_order i j) where
  by_order : (i ≡ j) ⊎ ((i < j) ⊎ (j < i)) → bit_at (n * 2 ^ (4 * i)) (4 * j + b) ≡ 0
  by_order (inl same) = absurd (other (sym same))
  by_order (inr (inl up)) = above n i (4 * j + b) few (omega arith)
  by_order (inr (inr down)) = below n (4 * i) (4 * j + b) (omega arith)

-- x with n in place of its tags at place i
abbrev pub packed : ℕ → ℕ → ℕ → ℕ
packed x n i = bit_or (bit_and x (bit_not w64 (15 * 2 ^ (4 * i) % 2 ^ 64))) (n * 2 ^ (4 * i) % 2 ^ 64)

whole : (n i : ℕ) → n < 16 → i < 16 → n * 2 ^ (4 * i) % 2 ^ 64 ≡ n * 2 ^ (4 * i)
whole n i few within = shl_exact {a = n} 4 (4 * i) 64 few (omega arith)

bit_at-packed : (x n i k : ℕ) → n < 16 → i < 16 → k < 64
    → bit_at (packed x n i) k
    ≡ max (min (bit_at x k) (1 - bit_at (15 * 2 ^ (4 * i)) k)) (bit_at (n * 2 ^ (4 * i)) k)
bit_at-packed x n i k few within h =
    let mask = 15 * 2 ^ (4 * i) % 2 ^ 64 in
    let fits : mask < 2 ^ 64 = omega arith in
    bit_at_or (bit_and x (bit_not w64 mask)) _ k
    ∙ ap (λ b. max b (bit_at (n * 2 ^ (4 * i) % 2 ^ 64) k))
    (bit_at_and x (bit_not w64 mask) k ∙ ap (λ b. min (bit_at x k) b) (bit_at_not w64 mask k fits h))
    ∙ ap (λ m. max (min (bit_at x k) (1 - bit_at m k)) (bit_at (n * 2 ^ (4 * i) % 2 ^ 64) k))
    (whole 15 i (omega arith) within)
    ∙ ap (λ m. max (min (bit_at x k) (1 - bit_at (15 * 2 ^ (4 * i)) k)) (bit_at m k)) (whole n i few within)

kept : (a p q : ℕ) → a < 2 → p ≡ 0 → q ≡ 0 → max (min a (1 - p)) q ≡ a
kept a p q small clear none = omega (arith, small, clear, none)

put : (a p q r : ℕ) → p ≡ 1 → q ≡ r → max (min a (1 - p)) q ≡ r
put a p q r set same = omega (arith, set, same)

ones : (b : ℕ) → b < 4 → bit_at 15 b ≡ 1
ones zero h = refl
ones (suc zero) h = refl
ones (suc (suc zero)) h = refl
ones (suc (suc (suc zero))) h = refl
ones (suc (suc (suc (suc b)))) h = absurd (omega arith)

-- the other places keep their tags
pub element_tags-packed_other : (x n i j : ℕ) → n < 16 → i < 16 → j < 16 → (j ≢ i)
    → element_tags (packed x n i) j ≡ element_tags x j
element_tags-packed_other x n i j few within within_too other =
    same_tags (packed x n i) x j (λ b h.
    bit_at-packed x n i (4 * j + b) few within (omega arith)
    ∙ kept _ _ _ (bit_at-lt x (4 * j + b)) (apart 15 i j b (omega arith) h other) (apart n i j b few h other))

-- and place i has the new ones
pub element_tags-packed_same : (x n i : ℕ) → n < 16 → i < 16 → element_tags (packed x n i) i ≡ n
unfolding element_tags
element_tags-packed_same x n i few within =
    let whole_n : n * 2 ^ (4 * i) / 2 ^ (4 * i) ≡ n = mul-div_cancel n (pow_pos (4 * i)) in
    let small : n % 16 ≡ n = omega arith in
    same_tags (packed x n i) (n * 2 ^ (4 * i)) i (λ b h.
    bit_at-packed x n i (4 * i + b) few within (omega arith)
    ∙ put _ _ _ _ (here 15 i b ∙ ones b h) refl)
    ∙ ap (λ m. m % 16) whole_n
    ∙ small
