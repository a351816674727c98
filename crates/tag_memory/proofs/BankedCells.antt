-- The words that eight banks keep.
use Rattle.std.proofs.Common.{◌≡◌, ◌≢◌, ℕ, ◌+◌, ◌*◌, ◌/◌, ◌%◌, ◌<◌, ◌≤◌, Bool, true, false, ◌==◌}
use Rattle.std.proofs.Common.{if◌then◌else◌, refl, sym, ◌∙◌, ap, subst, inl, inr, ◌⊎◌, arith, List, [], length}
use Rattle.std.proofs.Common.{get_or}
use Rattle.std.proofs.Common.{set, Option, Some, None, is_some, slice_get, length-set, get_or-set_same}
use Rattle.std.proofs.Common.{get_or-set_other, ext_get_or}
use Rattle.std.proofs.lemmas.Bool.{cases_eq, cases_lt, false≢true}
use Rattle.std.proofs.lemmas.List.FromFn.{length-map-range_with_len, get_or-map-range_with_len, fill_by_all}
use Rattle.std.proofs.lemmas.Option.{slice_get-get_or, slice_get_past}
use Rattle.tag_memory.specs.Cell.{Cell}
use Rattle.tag_memory.specs.Storage.{memory_with_chain, IsWithinLimits}
use Rattle.tag_memory.specs.Banks.{blank_cell, bank_count, bank_size, every_eighth, banked_cells, AreBanks}

pub length-banked_cells : (banks : List (List Cell)) (n : ℕ) → length (banked_cells banks n) ≡ n
unfolding banked_cells
length-banked_cells banks n = length-map-range_with_len _ 0 n

get_or-banked_cells : (banks : List (List Cell)) (n w : ℕ) (d : Cell) → w < n
    → get_or (banked_cells banks n) w d ≡ get_or (get_or banks (w % bank_count) []) (w / bank_count) blank_cell
unfolding banked_cells
get_or-banked_cells banks n w d h = get_or-map-range_with_len _ 0 n w w d h (omega arith)

-- ---- reading

-- the word at place w / 8 of bank w mod 8
pub slice_get-banked_cells : (banks : List (List Cell)) (n w : ℕ) (bank : List Cell) → AreBanks banks n
    → bank ≡ get_or banks (w % bank_count) []
    → slice_get bank (w / bank_count) ≡ slice_get (banked_cells banks n) w
slice_get-banked_cells banks n w bank are stands = by_place (cases_lt w n) where
  within_eight : w % bank_count < bank_count
  within_eight = omega arith

  long : length bank ≡ bank_size n (w % bank_count)
  long = ap length stands ∙ are.sizes (w % bank_count) within_eight

  by_place : (w < n) ⊎ (n ≤ w) → slice_get bank (w / bank_count) ≡ slice_get (banked_cells banks n) w
  by_place (inl within) =
      let in_bank : w / bank_count < length bank = omega (arith, within, long) in
      let in_memory : w < length (banked_cells banks n) = omega (arith, within, length-banked_cells banks n) in
      slice_get-get_or bank (w / bank_count) blank_cell in_bank
      ∙ ap (λ b. Some (get_or b (w / bank_count) blank_cell)) stands
      ∙ ap (λ x. Some x) (sym (get_or-banked_cells banks n w blank_cell within))
      ∙ sym (slice_get-get_or (banked_cells banks n) w blank_cell in_memory)
  by_place (inr past) =
      let past_bank : length bank ≤ w / bank_count = omega (arith, past, long) in
      let past_memory : length (banked_cells banks n) ≤ w = omega (arith, past, length-banked_cells banks n) in
      slice_get_past bank (w / bank_count) past_bank ∙ sym (slice_get_past (banked_cells banks n) w past_memory)

-- a memory of as many words
pub within_limits-kept : (banks others : List (List Cell)) (n limit : ℕ)
    → IsWithinLimits (memory_with_chain (banked_cells banks n) limit)
    → IsWithinLimits (memory_with_chain (banked_cells others n) limit)
within_limits-kept banks others n limit within =
    let long = length-banked_cells banks n in
    let long_too = length-banked_cells others n in record {
      some = omega (arith, within.some, long, long_too);
      few = omega (arith, within.few, long, long_too);
      chain = within.chain;
    }

-- ---- writing

-- an address at which a word stands
pub within_cells : (cells : List Cell) (a : ℕ)
    → is_some (if a % 8 == 0 then slice_get cells (a / 8) else None) ≡ true → a / 8 < length cells
within_cells cells a there = by_place (cases_lt (a / 8) (length cells)) where
  at_test : (b : Bool) (o : Option Cell) → o ≡ None → is_some (if b then o else None) ≡ true → ⊥
  at_test true o e f = false≢true (sym (ap is_some e) ∙ f)
  at_test false o e f = false≢true f

  by_place : (a / 8 < length cells) ⊎ (length cells ≤ a / 8) → a / 8 < length cells
  by_place (inl within) = within
  by_place (inr past) =
      absurd (at_test (a % 8 == 0) (slice_get cells (a / 8)) (slice_get_past cells (a / 8) past) there)

-- a place of a bank
pub within_eighth : (banks : List (List Cell)) (n w : ℕ) (bank : List Cell) → AreBanks banks n
    → bank ≡ get_or banks (w % bank_count) [] → w < n → w / bank_count < length bank
within_eighth banks n w bank are stands within =
    let within_eight : w % bank_count < bank_count = omega arith in
    let long : length bank ≡ bank_size n (w % bank_count) =
    ap length stands ∙ are.sizes (w % bank_count) within_eight in
    omega (arith, within, long)

pub banked_cells-set : (banks : List (List Cell)) (n w : ℕ) (bank : List Cell) (c : Cell) → AreBanks banks n
    → bank ≡ get_or banks (w % bank_count) [] → w < n
    → banked_cells (set banks (w % bank_count) (set bank (w / bank_count) c)) n ≡ set (banked_cells banks n) w c
banked_cells-set banks n w bank c are stands within =
    let long = length-banked_cells banks n in
    let long_after = length-banked_cells after n in
    let set_long = length-set (banked_cells banks n) w c in
    ext_get_or blank_cell _ _ (omega (arith, long, long_after, set_long))
    (λ v h. by_word v (omega (arith, h, long_after)) (cases_eq v w)) where
      after : List (List Cell)
      after = set banks (w % bank_count) (set bank (w / bank_count) c)

      within_eight : w % bank_count < length banks
      within_eight = omega (arith, are.eight)

      by_bank : (v : ℕ) → v < n → (v ≢ w) → (v % bank_count ≡ w % bank_count) ⊎ (v % bank_count ≡ w % bank_count → ⊥)
          → get_or (get_or after (v % bank_count) []) (v / bank_count) blank_cell
          ≡ get_or (get_or banks (v % bank_count) []) (v / bank_count) blank_cell
      by_bank v h other (inl same) =
          let apart : v / bank_count ≢ w / bank_count = λ e. other (omega (arith, e, same)) in
          ap (λ j. get_or (get_or after j []) (v / bank_count) blank_cell) same
          ∙ ap (λ b. get_or b (v / bank_count) blank_cell) (get_or-set_same banks (w % bank_count) _ [] within_eight)
          ∙ get_or-set_other bank (w / bank_count) (v / bank_count) c blank_cell apart
          ∙ ap (λ b. get_or b (v / bank_count) blank_cell) stands
          ∙ ap (λ j. get_or (get_or banks j []) (v / bank_count) blank_cell) (sym same)
      by_bank v h other (inr apart) =
          ap (λ b. get_or b (v / bank_count) blank_cell)
          (get_or-set_other banks (w % bank_count) (v % bank_count) _ [] apart)

      by_word : (v : ℕ) → v < n → (v ≡ w) ⊎ (v ≡ w → ⊥)
          → get_or (banked_cells after n) v blank_cell ≡ get_or (set (banked_cells banks n) w c) v blank_cell
      by_word v h (inl same) =
          let in_bank = within_eighth banks n w bank are stands within in
          let in_memory : w < length (banked_cells banks n) = omega (arith, within, length-banked_cells banks n) in
          ap (λ u. get_or (banked_cells after n) u blank_cell) same
          ∙ get_or-banked_cells after n w blank_cell within
          ∙ ap (λ b. get_or b (w / bank_count) blank_cell) (get_or-set_same banks (w % bank_count) _ [] within_eight)
          ∙ get_or-set_same bank (w / bank_count) c blank_cell in_bank
          ∙ sym (get_or-set_same (banked_cells banks n) w c blank_cell in_memory)
          ∙ ap (λ u. get_or (set (banked_cells banks n) w c) u blank_cell) (sym same)
      by_word v h (inr other) =
          get_or-banked_cells after n v blank_cell h
          ∙ by_bank v h other (cases_eq (v % bank_count) (w % bank_count))
          ∙ sym (get_or-banked_cells banks n v blank_cell h)
          ∙ sym (get_or-set_other (banked_cells banks n) w v c blank_cell other)

pub are_banks-set : (banks : List (List Cell)) (n w : ℕ) (bank : List Cell) (c : Cell) → AreBanks banks n
    → bank ≡ get_or banks (w % bank_count) []
    → AreBanks (set banks (w % bank_count) (set bank (w / bank_count) c)) n
are_banks-set banks n w bank c are stands = record {
  eight = length-set banks (w % bank_count) _ ∙ are.eight;
  sizes = λ k h. by_bank k h (cases_eq k (w % bank_count));
} where
  by_bank : (k : ℕ) → k < bank_count → (k ≡ w % bank_count) ⊎ (k ≡ w % bank_count → ⊥)
      → length (get_or (set banks (w % bank_count) (set bank (w / bank_count) c)) k []) ≡ bank_size n k
  by_bank k h (inl same) =
      let within_eight : w % bank_count < length banks = omega (arith, are.eight) in
      ap (λ j. length (get_or (set banks (w % bank_count) (set bank (w / bank_count) c)) j [])) same
      ∙ ap length (get_or-set_same banks (w % bank_count) _ [] within_eight)
      ∙ length-set bank (w / bank_count) c
      ∙ ap length stands
      ∙ ap (λ j. length (get_or banks j [])) (sym same)
      ∙ are.sizes k h
  by_bank k h (inr other) = ap length (get_or-set_other banks (w % bank_count) k _ [] other) ∙ are.sizes k h

-- ---- eight banks

-- eight lists that are the banks, place by place
pub same_banks : (banks others : List (List Cell)) → length banks ≡ bank_count → length others ≡ bank_count
    → ((k : ℕ) → k < bank_count → get_or others k [] ≡ get_or banks k []) → others ≡ banks
same_banks banks others eight eight_too same =
    ext_get_or [] others banks (eight_too ∙ sym eight) (λ k h. same k (omega (arith, h, eight_too)))

-- the eighths of a list, as its banks
abbrev pub AreEighths : List (List Cell) → List Cell → Type 0
AreEighths banks cells = (k : ℕ) → k < bank_count → get_or banks k [] ≡ every_eighth cells k

length-every_eighth : (cells : List Cell) (k : ℕ) → length (every_eighth cells k) ≡ bank_size (length cells) k
unfolding every_eighth
length-every_eighth cells k = length-map-range_with_len _ 0 (bank_size (length cells) k)

get_or-every_eighth : (cells : List Cell) (k q : ℕ) → q < bank_size (length cells) k
    → get_or (every_eighth cells k) q blank_cell ≡ get_or cells (bank_count * q + k) blank_cell
unfolding every_eighth
get_or-every_eighth cells k q h =
    get_or-map-range_with_len _ 0 (bank_size (length cells) k) q q blank_cell h (omega arith)

are_banks-eighths : (banks : List (List Cell)) (cells : List Cell) → length banks ≡ bank_count
    → AreEighths banks cells → AreBanks banks (length cells)
are_banks-eighths banks cells eight eighths = record {
  eight = eight;
  sizes = λ k h. ap length (eighths k h) ∙ length-every_eighth cells k;
}

pub banked_cells-eighths : (banks : List (List Cell)) (cells : List Cell)
    → AreEighths banks cells → banked_cells banks (length cells) ≡ cells
unfolding banked_cells
banked_cells-eighths banks cells eighths =
    sym (fill_by_all _ cells (length cells) blank_cell refl (λ w h.
    let within_eight : w % bank_count < bank_count = omega arith in
    let within : w / bank_count < bank_size (length cells) (w % bank_count) = omega (arith, h) in
    let back : bank_count * (w / bank_count) + w % bank_count ≡ w = omega arith in
    sym (ap (λ b. get_or b (w / bank_count) blank_cell) (eighths (w % bank_count) within_eight)
    ∙ get_or-every_eighth cells (w % bank_count) (w / bank_count) within
    ∙ ap (λ u. get_or cells u blank_cell) back)))

pub kept_eighths : (banks : List (List Cell)) (cells : List Cell) (limit : ℕ) → length banks ≡ bank_count
    → AreEighths banks cells → IsWithinLimits (memory_with_chain cells limit)
    → IsWithinLimits (memory_with_chain (banked_cells banks (length cells)) limit) × AreBanks banks (length cells)
kept_eighths banks cells limit eight eighths within = (
  subst (λ (xs : List Cell). IsWithinLimits (memory_with_chain xs limit))
      (sym (banked_cells-eighths banks cells eighths)) within,
  are_banks-eighths banks cells eight eighths,
)
