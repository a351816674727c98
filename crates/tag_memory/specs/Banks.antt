-- How the words are kept: word w stands in bank w mod 8 at place w / 8. A bank has its values in one list, and its
-- tags in another, four bits a place and sixteen places an element. No contract above the storage names any of this.
use Rattle.std.specs.Prelude.{ℕ, ◌≡◌, ◌+◌, ◌-◌, ◌*◌, ◌/◌, ◌%◌, ◌^◌, ◌<◌, ◌≤◌, List, [], length, map}
use Rattle.std.specs.Prelude.{slice_index, slice_index_or, false}
use Rattle.std.specs.List.{range_with_len}
use Rattle.tag_memory.specs.Cell.{Cell, cell_of}
use Rattle.tag_memory.specs.Storage.{TaggedMemory, memory_with_chain}

-- how many banks a memory has
abbrev pub bank_count : ℕ
bank_count = 8

-- the word of value 0 with no tag
abbrev pub blank_cell : Cell
blank_cell = record { value = 0; full = false; forward = false; trap0 = false; trap1 = false }

-- the tags of place i of the sixteen whose tags an element keeps: four bits from bit 4 i up
unfoldable pub element_tags : ℕ → ℕ → ℕ
element_tags element i = element / 2 ^ (4 * i) % 16

-- the tags of place q of a bank
unfoldable pub place_tags : List ℕ → ℕ → ℕ
place_tags tags q = element_tags (slice_index tags (q / 16)) (q % 16)

-- the words of a bank with these values and tags
unfoldable pub bank_cells : List ℕ → List ℕ → List Cell
bank_cells values tags =
    map (λ q. cell_of (slice_index values q) (place_tags tags q)) (range_with_len 0 (length values))

-- a bank has just the elements of tags that its places need, and the tag bits past its last place are zero
pub record IsPacked (values tags : List ℕ) : Type 0 where
  pub elements : length tags ≡ (length values + 15) / 16
  pub clear : (q : ℕ) → length values ≤ q → place_tags tags q ≡ 0

-- how many of n words stand in bank k
abbrev pub bank_size : ℕ → ℕ → ℕ
bank_size n k = (n + 7 - k) / bank_count

-- every eighth word, from word k on
unfoldable pub every_eighth : List Cell → ℕ → List Cell
every_eighth cells k =
    map (λ q. slice_index_or cells (bank_count * q + k) blank_cell) (range_with_len 0 (bank_size (length cells) k))

-- n words that are kept in these banks
unfoldable pub banked_cells : List (List Cell) → ℕ → List Cell
banked_cells banks n =
    map (λ w. slice_index_or (slice_index_or banks (w % bank_count) []) (w / bank_count) blank_cell)
    (range_with_len 0 n)

-- the memory with these words and this chain limit
abbrev pub banked_memory : List (List Cell) → ℕ → ℕ → TaggedMemory
banked_memory banks n limit = memory_with_chain (banked_cells banks n) limit

-- eight banks of the sizes that n words take
pub record AreBanks (banks : List (List Cell)) (n : ℕ) : Type 0 where
  pub eight : length banks ≡ bank_count
  pub sizes : (k : ℕ) → k < bank_count → length (slice_index_or banks k []) ≡ bank_size n k
