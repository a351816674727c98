-- Bytes of a line: blanks, heads, operands, names.
use Rattle.std.specs.Prelude.{ℕ, ◌==◌, Bool, nat_lt, nat_le, ◌&&◌, ◌||◌, if◌then◌else◌}
use Rattle.std.specs.Prelude.{List, [], ◌∷◌, length, slice_index, map, drop, reverse}
use Rattle.std.specs.List.{before_first, after_first, list_all}
use Rattle.std.specs.Char.{is_ascii_alphabetic, is_ascii_alphanumeric}
use Rattle.text_parts.specs.Pieces.{pieces}

-- a blank is a space, a tab or a carriage return
abbrev pub is_blank : ℕ → Bool
is_blank b = b == 32 || (b == 9 || b == 13)

-- without the blanks in front
abbrev pub skip_blanks : List ℕ → List ℕ
skip_blanks [] = []
skip_blanks (b ∷ bytes) = if is_blank b then skip_blanks bytes else b ∷ bytes

-- without the blanks at both ends
unfoldable pub trim : List ℕ → List ℕ
trim bytes = reverse (skip_blanks (reverse (skip_blanks bytes)))

-- the head of a statement ends at its first blank
unfoldable pub head : List ℕ → List ℕ
head text = before_first is_blank text

-- what follows the head, without blanks at the ends
unfoldable pub behind_head : List ℕ → List ℕ
behind_head text = trim (after_first is_blank text)

-- the operands, of a text without blanks at its ends
unfoldable pub operands_of : List ℕ → List (List ℕ)
operands_of text = if length text == 0 then [] else map trim (pieces 44 text)

-- the operands of a statement, which are separated by commas
abbrev pub operands : List ℕ → List (List ℕ)
operands text = operands_of (behind_head text)

-- a letter or _
abbrev pub is_first : ℕ → Bool
is_first b = is_ascii_alphabetic b || b == 95

-- a letter, a digit or _
abbrev pub is_further : ℕ → Bool
is_further b = is_ascii_alphanumeric b || b == 95

-- a letter or _, then letters, digits or _, 1 to 32 characters
unfoldable pub is_name : List ℕ → Bool
is_name text =
    (nat_lt 0 (length text) && nat_le (length text) 32)
    && (is_first (slice_index text 0) && list_all is_further (drop 1 text))
