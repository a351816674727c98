-- The memory, as contracts see it: a map from the byte addresses 0, 8, 16, .. to words, kept as the list of its
-- words, and how many of them may forward one reference.
use Rattle.std.specs.Prelude.{ℕ, ◌≤◌, ◌/◌, ◌%◌, ◌==◌, List, length, Option, None, if◌then◌else◌, slice_get, slice_set}
use Rattle.tag_memory.specs.Cell.{Cell}

-- a memory: its words from byte address 0 on, and how many of them may forward one reference
pub record TaggedMemory : Type 0 where
  pub cells : List Cell
  pub chain_limit : ℕ

-- the most words that a memory has
abbrev pub most_memory_words : ℕ
most_memory_words = 262144

-- the most words that a chain limit lets forward one reference
abbrev pub most_chain_limit : ℕ
most_chain_limit = 64

-- the chain limit of a memory of which nothing else is said
abbrev pub default_chain_limit : ℕ
default_chain_limit = 8

-- it has a word, and no more than these, and its chain limit is no larger than one may be
pub record IsWithinLimits (m : TaggedMemory) : Type 0 where
  pub some : 1 ≤ length m.cells
  pub few : length m.cells ≤ most_memory_words
  pub chain : m.chain_limit ≤ most_chain_limit

-- the memory with these words at the addresses 0, 8, 16, .., and this chain limit
abbrev pub memory_with_chain : List Cell → ℕ → TaggedMemory
memory_with_chain cells limit = record { cells = cells; chain_limit = limit }

-- the memory with these words, of whose chain limit nothing is said
abbrev pub memory_of : List Cell → TaggedMemory
memory_of cells = memory_with_chain cells default_chain_limit

-- the word at a byte address; none where the address is unaligned or past the end
abbrev pub cell_at : TaggedMemory → ℕ → Option Cell
cell_at m a = if a % 8 == 0 then slice_get m.cells (a / 8) else None

-- the memory with another word at a byte address, and each other word as it is
abbrev pub with_cell : TaggedMemory → ℕ → Cell → TaggedMemory
with_cell m a c = record m { cells = slice_set m.cells (a / 8) c }
