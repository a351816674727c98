-- Whether a word is as expected.
use Rattle.std.specs.Prelude.{ℕ, ◌+◌, ◌%◌, ◌^◌, ◌==◌, nat_lt, int_lt, Bool, true, false, not, ◌&&◌, Option, Some, None}
use Rattle.tag_memory.specs.Cell.{Cell}
use Rattle.stream_core.specs.Arithmetic.{signed}
use Rattle.expectations.specs.declared.expectation.FullEmpty.{FullEmpty}
use Rattle.expectations.specs.declared.expectation.FullEmpty.TheVariants.{Full, Empty}
use Rattle.expectations.specs.declared.expectation.Relation.{Relation}
use Rattle.expectations.specs.declared.expectation.Relation.TheVariants.{Is, Above, Below, AboveSigned, BelowSigned}

-- whether a word, full or not, is in the state that is wanted, if one is
abbrev pub is_in_state : Option FullEmpty → Bool → Bool
is_in_state None full = true
is_in_state (Some Full) full = full
is_in_state (Some Empty) full = not full

-- whether a word is there, with this value and in this state
abbrev pub is_word : ℕ → Option FullEmpty → Option Cell → Bool
is_word value state None = false
is_word value state (Some c) = c.value == value && is_in_state state c.full

-- whether a number of 64 bits stands so to another: as they stand, or in two's complement
abbrev pub is_related : Relation → ℕ → ℕ → Bool
is_related Is a b = a == b
is_related Above a b = nat_lt b a
is_related Below a b = nat_lt a b
is_related AboveSigned a b = int_lt (signed b) (signed a)
is_related BelowSigned a b = int_lt (signed a) (signed b)

-- whether two words are there, and the first one's value stands so to the second one's and a number
abbrev pub is_compared : Relation → ℕ → Option Cell → Option Cell → Bool
is_compared r more None d = false
is_compared r more (Some c) None = false
is_compared r more (Some c) (Some d) = is_related r c.value ((d.value + more) % 2 ^ 64)
