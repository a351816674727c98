-- A word of the memory, as contracts see it: its value and its four tags.
use Rattle.std.specs.Prelude.{ℕ, ◌+◌, ◌/◌, ◌%◌, ◌^◌, ◌==◌, Bool, if◌then◌else◌}
use Rattle.tag_memory.specs.declared.tag_set.Tags.{Tags}

-- a word of the memory: its value and its four tags
pub record Cell : Type 0 where
  pub value : ℕ
  pub full : Bool
  pub forward : Bool
  pub trap0 : Bool
  pub trap1 : Bool

-- whether the bit at place k of n is 1
abbrev pub has_bit : ℕ → ℕ → Bool
has_bit n k = n / 2 ^ k % 2 == 1

-- the word of this value whose tags the four low bits of a number are
abbrev pub cell_of : ℕ → ℕ → Cell
cell_of value tags = record {
  value = value;
  full = has_bit tags 0;
  forward = has_bit tags 1;
  trap0 = has_bit tags 2;
  trap1 = has_bit tags 3;
}

-- the tags of a word as a number: full 1, forward 2, trap0 4, trap1 8
abbrev pub tag_number : Cell → ℕ
tag_number c =
    (if c.full then 1 else 0) + (if c.forward then 2 else 0) + (if c.trap0 then 4 else 0) + (if c.trap1 then 8 else 0)

-- a set of tags as a number, each tag the same bit as in a word
abbrev pub tag_bits : Tags → ℕ
tag_bits t = t.0
