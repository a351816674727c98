-- A memory of an image is told by its numbers.
use Rattle.std.proofs.Common.{◌≡◌, ℕ, ◌+◌, ◌*◌, ◌/◌, ◌%◌, ◌^◌, ◌<◌, ◌≤◌, Bool, true, false, refl, sym, ap}
use Rattle.std.proofs.Common.{◌∙◌, arith, List, [], ◌∷◌, ◌++◌, length, get_or, drop, append-nil, append_assoc, cond}
use Rattle.std.proofs.Common.{Option, Some, slice_get, IsSome, is_some}
use Rattle.std.proofs.lemmas.Bool.{and_parts, eqb-true}
use Rattle.std.proofs.lemmas.List.{drop_more, drop_all}
use Rattle.std.proofs.lemmas.Option.{slice_get_within, slice_get-get_or, get_or_from_slice_get}
use Rattle.tag_memory.specs.Cell.{Cell, cell_of, tag_number}
use Rattle.tag_memory.specs.Storage.{TaggedMemory, cell_at}
use Rattle.image_file.specs.ImageValue.{ImageValue}
use Rattle.image_file.specs.Same.{same_cell}
use Rattle.image_file.specs.SameLaws.{cell_of-tag_number}
use Rattle.world_keys.specs.StreamNumbers.{halves}
use Rattle.world_keys.specs.MemoryNumbers.{cell_change, changes, memory_numbers}
use Rattle.world_keys.specs.WorldKeys.{IsMemoryOf}
use Rattle.world_keys.proofs.Digits.{joined, numbered}

-- Words.

cells_same : (c d : Cell) → c.value ≡ d.value → tag_number c ≡ tag_number d → c ≡ d
cells_same c d value tags =
    sym (cell_of-tag_number c) ∙ (λ i. cell_of (value i) (tags i)) ∙ cell_of-tag_number d

same_is : (c d : Cell) → same_cell c d ≡ true → c ≡ d
same_is c d same =
    let parts = and_parts _ _ same in
    cells_same c d (eqb-true c.value d.value parts.0) (eqb-true (tag_number c) (tag_number d) parts.1)

-- Memories.

-- what words differ stand behind the first
past : (n : ℕ) (cs ds : List Cell) (a : ℕ) (rest : List ℕ) → changes n cs ds ≡ a ∷ rest → n ≤ a
unfolding changes
past n [] ds a rest is = absurd cc
past n (c ∷ cs) [] a rest is = absurd cc
past n (c ∷ cs) (d ∷ ds) a rest is =
    numbered (same_cell c d) n a (tag_number d ∷ halves d.value) (changes (n + 1) cs ds) rest
    (past (n + 1) cs ds a rest) is

pub same_cells : (n : ℕ) (cs ds es : List Cell) → length ds ≡ length cs → length es ≡ length cs
    → changes n cs ds ≡ changes n cs es → ds ≡ es
unfolding changes
same_cells n [] [] [] one other same = refl
same_cells n [] [] (e ∷ es) one other same = absurd (omega arith)
same_cells n [] (d ∷ ds) es one other same = absurd (omega arith)
same_cells n (c ∷ cs) [] es one other same = absurd (omega arith)
same_cells n (c ∷ cs) (d ∷ ds) [] one other same = absurd (omega arith)
same_cells n (c ∷ cs) (d ∷ ds) (e ∷ es) one other same =
    by_same (same_cells (n + 1) cs ds es (omega arith) (omega arith)) (same_cell c d) (same_cell c e) refl refl same where
      by_same : (changes (n + 1) cs ds ≡ changes (n + 1) cs es → ds ≡ es) → (a b : Bool) → same_cell c d ≡ a
          → same_cell c e ≡ b
          → cond a [] (n ∷ tag_number d ∷ halves d.value) ++ changes (n + 1) cs ds
          ≡ cond b [] (n ∷ tag_number e ∷ halves e.value) ++ changes (n + 1) cs es
          → d ∷ ds ≡ e ∷ es
      by_same others true true first second is =
          let here = sym (same_is c d first) ∙ same_is c e second in
          let rest = others is in
          λ i. here i ∷ rest i
      by_same others true false first second is =
          let late = past (n + 1) cs ds n (tag_number e ∷ (halves e.value ++ changes (n + 1) cs es)) is in absurd (omega arith)
      by_same others false true first second is =
          let late = past (n + 1) cs es n (tag_number d ∷ (halves d.value ++ changes (n + 1) cs ds)) (sym is) in
          absurd (omega arith)
      by_same others false false first second is =
          let tags : tag_number d ≡ tag_number e = cc in
          let low : d.value % 2 ^ 32 ≡ e.value % 2 ^ 32 = cc in
          let high : d.value / 2 ^ 32 ≡ e.value / 2 ^ 32 = cc in
          let tails : changes (n + 1) cs ds ≡ changes (n + 1) cs es = cc in
          let here = cells_same d e (joined d.value e.value low high) tags in
          let rest = others tails in
          λ i. here i ∷ rest i

pub same_memory : (image : ImageValue) (m n : TaggedMemory) → IsMemoryOf image m → IsMemoryOf image n
    → memory_numbers image m ≡ memory_numbers image n → m ≡ n
same_memory image m n one other same =
    let cells = same_cells 0 image.cells m.cells n.cells one.cells other.cells same in
    let chain = one.chain ∙ sym other.chain in
    λ i. record { cells = cells i; chain_limit = chain i }

-- One word after another.

pub change_more : (all numbers more : List ℕ) (cs ds : List Cell) (n : ℕ) (c d : Cell)
    → numbers ++ changes n (drop n cs) (drop n ds) ≡ all → n < length cs → c ≡ get_or cs n c
    → slice_get ds n ≡ Some d → more ≡ numbers ++ cell_change n c d
    → more ++ changes (n + 1) (drop (n + 1) cs) (drop (n + 1) ds) ≡ all
unfolding changes
change_more all numbers more cs ds n c d so_far below was there is =
    let rest = changes (n + 1) (drop (n + 1) cs) (drop (n + 1) ds) in
    let first : drop n cs ≡ c ∷ drop (n + 1) cs =
    drop_more cs n c below ∙ ap (λ x. x ∷ drop (n + 1) cs) (sym was) in
    let second : drop n ds ≡ d ∷ drop (n + 1) ds =
    drop_more ds n d (slice_get_within ds n d there)
    ∙ ap (λ x. x ∷ drop (n + 1) ds) (get_or_from_slice_get ds n d d there) in
    let next : changes n (drop n cs) (drop n ds) ≡ cell_change n c d ++ rest = λ i. changes n (first i) (second i) in
    ap (λ x. x ++ rest) is ∙ append_assoc numbers (cell_change n c d) rest ∙ ap (λ x. numbers ++ x) (sym next) ∙ so_far

pub change_none : (all numbers : List ℕ) (cs ds : List Cell) (n : ℕ)
    → numbers ++ changes n (drop n cs) (drop n ds) ≡ all → length cs ≤ n → numbers ≡ all
unfolding changes
change_none all numbers cs ds n so_far past_end =
    sym (append-nil numbers)
    ∙ sym (ap (λ x. numbers ++ changes n x (drop n ds)) (drop_all n cs past_end))
    ∙ so_far

-- A word of the memory.

pub cell_at_place : (m : TaggedMemory) (k : ℕ) → cell_at m (k * 8) ≡ slice_get m.cells k
cell_at_place m k =
    let aligned : k * 8 % 8 ≡ 0 = omega arith in
    let back : k * 8 / 8 ≡ k = omega arith in
    rw (aligned, back) refl

pub word_there : (image : ImageValue) (m : TaggedMemory) (k : ℕ) (o : Option Cell) → IsMemoryOf image m
    → k < length image.cells → o ≡ cell_at m (k * 8) → IsSome o
word_there image m k o of below is =
    let c : Cell = record { value = 0; full = false; forward = false; trap0 = false; trap1 = false } in
    ap is_some (is ∙ cell_at_place m k ∙ slice_get-get_or m.cells k c (omega (arith, of.cells)))
