-- The words of a bank, by its values and its packed tags.
use Rattle.std.proofs.Common.{◌≡◌, ◌≢◌, ℕ, ◌+◌, ◌*◌, ◌/◌, ◌%◌, ◌^◌, ◌<◌, ◌≤◌, Bool, true, false, refl, sym, ◌∙◌}
use Rattle.std.proofs.Common.{ap, inl, inr, ◌⊎◌, arith, List, length, get_or, set, replicate, Some, None}
use Rattle.std.proofs.Common.{slice_get, length-set, get_or-set_same, get_or-set_other, ext_get_or}
use Rattle.std.proofs.Math.Nat.{zero-div}
use Rattle.std.proofs.lemmas.Bool.{cases_eq, cases_lt}
use Rattle.std.proofs.lemmas.List.{get_or-replicate, get_or_past, length-replicate}
use Rattle.std.proofs.lemmas.List.FromFn.{length-map-range_with_len, get_or-map-range_with_len, fill_by_all}
use Rattle.std.proofs.lemmas.Option.{slice_get-get_or, slice_get_past}
use Rattle.tag_memory.specs.Cell.{Cell, cell_of, tag_number}
use Rattle.tag_memory.specs.Banks.{blank_cell, bank_count, bank_size, element_tags, place_tags, bank_cells}
use Rattle.tag_memory.specs.Banks.{every_eighth}
use Rattle.tag_memory.specs.Banks.{IsPacked}

pub length-bank_cells : (values tags : List ℕ) → length (bank_cells values tags) ≡ length values
unfolding bank_cells
length-bank_cells values tags = length-map-range_with_len _ 0 (length values)

get_or-bank_cells : (values tags : List ℕ) (q : ℕ) (d : Cell) → q < length values
    → get_or (bank_cells values tags) q d ≡ cell_of (get_or values q 0) (place_tags tags q)
unfolding bank_cells
get_or-bank_cells values tags q d h = get_or-map-range_with_len _ 0 (length values) q q d h (omega arith)

-- a place within has an element of tags
pub element_within : (values tags : List ℕ) (q : ℕ) → IsPacked values tags → q < length values → q / 16 < length tags
element_within values tags q packed h = omega (arith, packed.elements)

-- what is within a bank is within its values
pub within_bank : (values tags : List ℕ) (bank : List Cell) (q : ℕ)
    → bank_cells values tags ≡ bank → q < length bank → q < length values
within_bank values tags bank q same h = omega (arith, h, ap length same, length-bank_cells values tags)

-- ---- reading

pub slice_get-bank_cells : (values tags : List ℕ) (q v t : ℕ)
    → q < length values → v ≡ get_or values q 0 → t ≡ element_tags (get_or tags (q / 16) 0) (q % 16)
    → Some (cell_of v t) ≡ slice_get (bank_cells values tags) q
unfolding place_tags
slice_get-bank_cells values tags q v t h read unpacked =
    let within : q < length (bank_cells values tags) = omega (arith, length-bank_cells values tags) in
    ap (λ x. Some (cell_of x t)) read
    ∙ ap (λ x. Some (cell_of (get_or values q 0) x)) unpacked
    ∙ sym (ap (λ x. Some x) (get_or-bank_cells values tags q blank_cell h))
    ∙ sym (slice_get-get_or (bank_cells values tags) q blank_cell within)

pub slice_get-bank_cells_past : (values tags : List ℕ) (q : ℕ)
    → length values ≤ q → None ≡ slice_get (bank_cells values tags) q
slice_get-bank_cells_past values tags q h =
    let past : length (bank_cells values tags) ≤ q = omega (arith, length-bank_cells values tags) in
    sym (slice_get_past (bank_cells values tags) q past)

-- ---- writing

place_tags-set_same : (tags : List ℕ) (q e : ℕ) → q / 16 < length tags
    → place_tags (set tags (q / 16) e) q ≡ element_tags e (q % 16)
unfolding place_tags
place_tags-set_same tags q e h = ap (λ x. element_tags x (q % 16)) (get_or-set_same tags (q / 16) e 0 h)

place_tags-set_other : (tags : List ℕ) (q r e : ℕ) → q / 16 < length tags → (r ≢ q)
    → ((j : ℕ) → j < 16 → (j ≢ q % 16) → element_tags e j ≡ element_tags (get_or tags (q / 16) 0) j)
    → place_tags (set tags (q / 16) e) r ≡ place_tags tags r
unfolding place_tags
place_tags-set_other tags q r e h other same = by_element (cases_eq (r / 16) (q / 16)) where
  by_element : (r / 16 ≡ q / 16) ⊎ (r / 16 ≡ q / 16 → ⊥)
      → element_tags (get_or (set tags (q / 16) e) (r / 16) 0) (r % 16)
      ≡ element_tags (get_or tags (r / 16) 0) (r % 16)
  by_element (inl here) =
      let within : r % 16 < 16 = omega arith in
      let apart : r % 16 ≢ q % 16 = λ f. other (omega (arith, here, f)) in
      ap (λ k. element_tags (get_or (set tags (q / 16) e) k 0) (r % 16)) here
      ∙ ap (λ x. element_tags x (r % 16)) (get_or-set_same tags (q / 16) e 0 h)
      ∙ same (r % 16) within apart
      ∙ ap (λ k. element_tags (get_or tags k 0) (r % 16)) (sym here)
  by_element (inr there) = ap (λ x. element_tags x (r % 16)) (get_or-set_other tags (q / 16) (r / 16) e 0 there)

by_four : (v : ℕ) (a b c d : Bool)
    → cell_of v (tag_number (record { value = v; full = a; forward = b; trap0 = c; trap1 = d }))
    ≡ record { value = v; full = a; forward = b; trap0 = c; trap1 = d }
by_four v true true true true = refl
by_four v true true true false = refl
by_four v true true false true = refl
by_four v true true false false = refl
by_four v true false true true = refl
by_four v true false true false = refl
by_four v true false false true = refl
by_four v true false false false = refl
by_four v false true true true = refl
by_four v false true true false = refl
by_four v false true false true = refl
by_four v false true false false = refl
by_four v false false true true = refl
by_four v false false true false = refl
by_four v false false false true = refl
by_four v false false false false = refl

cell_of-tag_number : (c : Cell) → cell_of c.value (tag_number c) ≡ c
cell_of-tag_number c = by_four c.value c.full c.forward c.trap0 c.trap1

-- a value and the tags of its place, written, are a word written
pub bank_cells-set : (values tags : List ℕ) (q v e t : ℕ) (c : Cell)
    → IsPacked values tags → q < length values → v ≡ c.value → t ≡ tag_number c → element_tags e (q % 16) ≡ t
    → ((j : ℕ) → j < 16 → (j ≢ q % 16) → element_tags e j ≡ element_tags (get_or tags (q / 16) 0) j)
    → bank_cells (set values q v) (set tags (q / 16) e) ≡ set (bank_cells values tags) q c
bank_cells-set values tags q v e t c packed h value number here others =
    let element = element_within values tags q packed h in
    let long = length-bank_cells values tags in
    let long_after = length-bank_cells (set values q v) (set tags (q / 16) e) in
    let written = length-set values q v in
    let set_long = length-set (bank_cells values tags) q c in
    ext_get_or blank_cell _ _ (omega (arith, long, long_after, written, set_long))
    (λ r within. by_place r (omega (arith, within, long_after, written)) (cases_eq r q)) where
      by_place : (r : ℕ) → r < length values → (r ≡ q) ⊎ (r ≡ q → ⊥)
          → get_or (bank_cells (set values q v) (set tags (q / 16) e)) r blank_cell
          ≡ get_or (set (bank_cells values tags) q c) r blank_cell
      by_place r within (inl same) =
          let element = element_within values tags q packed h in
          let after : q < length (set values q v) = omega (arith, length-set values q v) in
          let stands : q < length (bank_cells values tags) = omega (arith, length-bank_cells values tags) in
          ap (λ k. get_or (bank_cells (set values q v) (set tags (q / 16) e)) k blank_cell) same
          ∙ get_or-bank_cells (set values q v) (set tags (q / 16) e) q blank_cell after
          ∙ ap (λ x. cell_of x (place_tags (set tags (q / 16) e) q)) (get_or-set_same values q v 0 h ∙ value)
          ∙ ap (cell_of c.value) (place_tags-set_same tags q e element ∙ here ∙ number)
          ∙ cell_of-tag_number c
          ∙ sym (get_or-set_same (bank_cells values tags) q c blank_cell stands)
          ∙ ap (λ k. get_or (set (bank_cells values tags) q c) k blank_cell) (sym same)
      by_place r within (inr other) =
          let element = element_within values tags q packed h in
          let after : r < length (set values q v) = omega (arith, length-set values q v) in
          get_or-bank_cells (set values q v) (set tags (q / 16) e) r blank_cell after
          ∙ ap (λ x. cell_of x (place_tags (set tags (q / 16) e) r)) (get_or-set_other values q r v 0 other)
          ∙ ap (cell_of (get_or values r 0)) (place_tags-set_other tags q r e element other others)
          ∙ sym (get_or-bank_cells values tags r blank_cell within)
          ∙ sym (get_or-set_other (bank_cells values tags) q r c blank_cell other)

-- and the bank stays packed
pub packed-set : (values tags : List ℕ) (q v e : ℕ)
    → IsPacked values tags → q < length values
    → ((j : ℕ) → j < 16 → (j ≢ q % 16) → element_tags e j ≡ element_tags (get_or tags (q / 16) 0) j)
    → IsPacked (set values q v) (set tags (q / 16) e)
packed-set values tags q v e packed h others = record {
  elements = omega (arith, packed.elements, length-set values q v, length-set tags (q / 16) e);
  clear = λ r past.
      let beyond : length values ≤ r = omega (arith, past, length-set values q v) in
      let other : r ≢ q = λ same. omega (arith, same, beyond, h) in
      place_tags-set_other tags q r e (element_within values tags q packed h) other others ∙ packed.clear r beyond;
}

-- ---- a bank of blank words

get_or-zeros : (n k : ℕ) → get_or {A = ℕ} (replicate n 0) k 0 ≡ 0
get_or-zeros n k = by_place (cases_lt k n) where
  by_place : (k < n) ⊎ (n ≤ k) → get_or {A = ℕ} (replicate n 0) k 0 ≡ 0
  by_place (inl within) = get_or-replicate {A = ℕ} n k 0 0 within
  by_place (inr past) =
      let beyond : length {A = ℕ} (replicate n 0) ≤ k = omega (arith, length-replicate {A = ℕ} n 0) in
      get_or_past {X = ℕ} (replicate n 0) k 0 beyond

place_tags-zeros : (n q : ℕ) → place_tags (replicate n 0) q ≡ 0
unfolding place_tags element_tags
place_tags-zeros n q =
    ap (λ x. element_tags x (q % 16)) (get_or-zeros n (q / 16)) ∙ ap (λ x. x % 16) (zero-div (2 ^ (4 * (q % 16))))

pub bank_cells-zeros : (n m : ℕ) → bank_cells (replicate n 0) (replicate m 0) ≡ replicate n blank_cell
bank_cells-zeros n m =
    let zeros = length-replicate {A = ℕ} n 0 in
    let blanks = length-replicate n blank_cell in
    let long = length-bank_cells (replicate n 0) (replicate m 0) in
    ext_get_or blank_cell _ _ (omega (arith, zeros, blanks, long)) (λ q h.
    let within : q < length {A = ℕ} (replicate n 0) = omega (arith, h, long) in
    let below : q < n = omega (arith, within, zeros) in
    get_or-bank_cells (replicate n 0) (replicate m 0) q blank_cell within
    ∙ ap (λ x. cell_of x (place_tags (replicate m 0) q)) (get_or-zeros n q)
    ∙ ap (cell_of 0) (place_tags-zeros m q)
    ∙ sym (get_or-replicate n q blank_cell blank_cell below))

pub packed-zeros : (n m : ℕ) → m ≡ (n + 15) / 16 → IsPacked (replicate n 0) (replicate m 0)
packed-zeros n m e = record {
  elements = omega (arith, e, length-replicate {A = ℕ} n 0, length-replicate {A = ℕ} m 0);
  clear = λ q past. place_tags-zeros m q;
}

-- ---- every eighth word

pub every_eighth-all : (cells bank : List Cell) (k : ℕ) → length bank ≡ bank_size (length cells) k
    → ((q : ℕ) → q < bank_size (length cells) k
    → get_or bank q blank_cell ≡ get_or cells (bank_count * q + k) blank_cell)
    → bank ≡ every_eighth cells k
unfolding every_eighth
every_eighth-all cells bank k long each = fill_by_all _ bank (bank_size (length cells) k) blank_cell long each
