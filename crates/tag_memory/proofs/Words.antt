-- A memory is a map from addresses to words: what it is by its words, and what a write leaves.
use Rattle.std.proofs.Common.{◌≡◌, ◌≢◌, ℕ, zero, suc, ◌*◌, ◌/◌, ◌%◌, ◌==◌, Bool, true, false, if◌then◌else◌, refl}
use Rattle.std.proofs.Common.{sym, ◌∙◌, ap, arith}
use Rattle.std.proofs.Common.{Option, Some, None, List, [], ◌∷◌, slice_get, set}
use Rattle.std.proofs.lemmas.Bool.Decides.{nat_tests}
use Rattle.tag_memory.specs.Cell.{Cell}
use Rattle.tag_memory.specs.Storage.{TaggedMemory, memory_with_chain, cell_at, with_cell}

slice_get-set_other : {X : Type 0} (xs : List X) (i j : ℕ) (x : X) → (i ≢ j)
    → slice_get (set xs i x) j ≡ slice_get xs j
slice_get-set_other [] i j x apart = refl
slice_get-set_other (y ∷ ys) zero zero x apart = absurd (apart refl)
slice_get-set_other (y ∷ ys) zero (suc j) x apart = refl
slice_get-set_other (y ∷ ys) (suc i) zero x apart = refl
slice_get-set_other (y ∷ ys) (suc i) (suc j) x apart = slice_get-set_other ys i j x (λ e. apart (ap (λ n. suc n) e))

same_lists : {X : Type 0} (xs ys : List X) → ((k : ℕ) → slice_get xs k ≡ slice_get ys k) → xs ≡ ys
same_lists [] [] same = refl
same_lists [] (y ∷ ys) same = let e = same 0 in cc
same_lists (x ∷ xs) [] same = let e = same 0 in cc
same_lists (x ∷ xs) (y ∷ ys) same =
    let first = same 0 in
    let rest : xs ≡ ys = same_lists xs ys (λ k. same (suc k)) in cc

-- the word at 8 k is the k-th
cell_at-eight : (m : TaggedMemory) (k : ℕ) → cell_at m (8 * k) ≡ slice_get m.cells k
cell_at-eight m k =
    let aligned : 8 * k % 8 ≡ 0 = omega arith in
    let place : 8 * k / 8 ≡ k = omega arith in
    ap (λ n. if n == 0 then slice_get m.cells (8 * k / 8) else None) aligned ∙ ap (slice_get m.cells) place

pub same_memories : (m n : TaggedMemory) → m.chain_limit ≡ n.chain_limit → ((a : ℕ) → cell_at m a ≡ cell_at n a)
    → m ≡ n
same_memories m n limits same =
    let cells = same_lists m.cells n.cells (λ k. sym (cell_at-eight m k) ∙ same (8 * k) ∙ cell_at-eight n k) in
    ap (λ xs. memory_with_chain xs m.chain_limit) cells ∙ ap (memory_with_chain n.cells) limits

aligned_at : (m : TaggedMemory) (a : ℕ) (c : Cell) → cell_at m a ≡ Some c → a % 8 ≡ 0
aligned_at m a c e = by_test (a % 8 == 0) refl e where
  by_test : (b : Bool) → (a % 8 == 0) ≡ b → (if b then slice_get m.cells (a / 8) else None) ≡ Some c → a % 8 ≡ 0
  by_test true test f = grind (arith, nat_tests)
  by_test false test f = cc

at_test : (b : Bool) (o p : Option Cell) → (b ≡ true → o ≡ p) → (if b then o else None) ≡ (if b then p else None)
at_test true o p same = same refl
at_test false o p same = refl

places_apart : (a b : ℕ) → a % 8 ≡ 0 → (b % 8 == 0) ≡ true → (a ≢ b) → a / 8 ≢ b / 8
places_apart a b left test apart = λ e.
    let right : b % 8 ≡ 0 = grind (arith, nat_tests) in
    apart (omega arith)

-- a write at the address of a word leaves the others
pub cell_at-with_cell_other : (m : TaggedMemory) (a b : ℕ) (c d : Cell)
    → cell_at m a ≡ Some c → (a ≢ b) → cell_at (with_cell m a d) b ≡ cell_at m b
cell_at-with_cell_other m a b c d stands apart =
    at_test (b % 8 == 0) _ _ (λ test.
    slice_get-set_other m.cells (a / 8) (b / 8) d (places_apart a b (aligned_at m a c stands) test apart))
