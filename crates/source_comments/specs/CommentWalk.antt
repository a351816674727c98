-- A walk over the bytes of a text, which knows of each place whether it is in a comment.
use Rattle.std.specs.Prelude.{ℕ, Bool, false, not, ◌==◌, ◌&&◌, ◌||◌, if◌then◌else◌, List, [], ◌∷◌}
use Rattle.source_comments.specs.AsciiComments.{ascii_byte}

-- what stands for a byte inside of a comment, or outside
abbrev pub taken : Bool → ℕ → ℕ
taken inside b = if inside then ascii_byte b else b

-- whether the place behind a byte is inside of a comment
abbrev pub inside_after : Bool → ℕ → Bool
inside_after inside b = not (b == 10) && (inside || b == 59)

-- a text that begins inside of a comment, or outside, with its comments in ASCII
abbrev pub ascii_from : Bool → List ℕ → List ℕ
ascii_from inside [] = []
ascii_from inside (b ∷ bs) = taken inside b ∷ ascii_from (inside_after inside b) bs
