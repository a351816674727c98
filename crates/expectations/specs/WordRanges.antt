-- The words from one to another, and what their values are.
use Rattle.std.specs.Prelude.{ℕ, ◌+◌, ◌-◌, ◌*◌, ◌/◌, ◌%◌, ◌^◌, ◌==◌, nat_lt, if◌then◌else◌, Bool, true, false, ◌&&◌}
use Rattle.std.specs.Prelude.{Option, Some, None}
use Rattle.std.specs.List.{list_all, sum_by, range_with_len}
use Rattle.tag_memory.specs.Cell.{Cell}
use Rattle.tag_memory.specs.Storage.{TaggedMemory, cell_at}
use Rattle.expectations.specs.MemoryWords.{is_word}
use Rattle.expectations.specs.declared.expectation.FullEmpty.{FullEmpty}

-- how many words lie from one byte address to another
abbrev pub word_count : ℕ → ℕ → ℕ
word_count first last = if nat_lt last first then 0 else (last - first) / 8 + 1

-- the word so many words behind a byte address, if there is one
abbrev pub word_behind : TaggedMemory → ℕ → ℕ → Option Cell
word_behind m first k = cell_at m (first + 8 * k)

-- whether each of so many words from a byte address on is there, with this value and in this state
abbrev pub are_words : ℕ → Option FullEmpty → TaggedMemory → ℕ → ℕ → Bool
are_words value state m first count =
    list_all (λ k. is_word value state (word_behind m first k)) (range_with_len 0 count)

abbrev pub is_there : Option Cell → Bool
is_there None = false
is_there (Some c) = true

abbrev pub value_in : Option Cell → ℕ
value_in None = 0
value_in (Some c) = c.value

-- whether each of so many words from a byte address on is there
abbrev pub are_there : TaggedMemory → ℕ → ℕ → Bool
are_there m first count = list_all (λ k. is_there (word_behind m first k)) (range_with_len 0 count)

-- the sum of their values
abbrev pub sum_of_words : TaggedMemory → ℕ → ℕ → ℕ
sum_of_words m first count = sum_by (λ k. value_in (word_behind m first k)) (range_with_len 0 count)

-- whether they are there, and their sum modulo 2^64 is this value
abbrev pub is_sum : ℕ → TaggedMemory → ℕ → ℕ → Bool
is_sum value m first count = are_there m first count && sum_of_words m first count % 2 ^ 64 == value
