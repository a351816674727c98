-- The words of a line.
use Rattle.std.specs.Prelude.{ℕ, ◌==◌, Bool, nat_lt, ◌||◌, if◌then◌else◌, List, [], ◌∷◌, length, filter, map}
use Rattle.std.specs.List.{slice_split, join_with_byte}
use Rattle.std.specs.Str.{is_utf8}
use Rattle.text_parts.specs.Pieces.{text_before}

-- a blank is a space, a tab or a carriage return
abbrev pub is_blank : ℕ → Bool
is_blank b = b == 32 || (b == 9 || b == 13)

-- what stands between two blanks is a word where it is not empty
abbrev pub is_word : List ℕ → Bool
is_word bytes = nat_lt 0 (length bytes)

-- the words between the blanks of a text
unfoldable pub words_of : List ℕ → List (List ℕ)
words_of text = filter is_word (slice_split is_blank text)

-- a line up to its comment, which begins with a number sign or a semicolon
abbrev pub statement : List ℕ → List ℕ
statement line = text_before 59 (text_before 35 line)

-- the words of a line
abbrev pub words_on : List ℕ → List (List ℕ)
words_on line = words_of (statement line)

-- the text from its first byte on that is no blank
abbrev pub skip_blanks : List ℕ → List ℕ
skip_blanks [] = []
skip_blanks (b ∷ bytes) = if is_blank b then skip_blanks bytes else b ∷ bytes

-- a word as text: nothing where its bytes are no UTF-8
abbrev pub text_of : List ℕ → List ℕ
text_of word = if is_utf8 word then word else []

-- words as messages and reports repeat them: with one space between each two
abbrev pub in_one_line : List (List ℕ) → List ℕ
in_one_line words = join_with_byte 32 (map text_of words)
