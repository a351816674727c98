-- The lines of a text.
use Rattle.std.specs.Prelude.{ℕ, Bool, List, [], ◌∷◌, ◌==◌, if◌then◌else◌}
use Rattle.std.specs.List.{onto_first}

-- whether a byte ends a line
abbrev pub is_line_end : ℕ → Bool
is_line_end byte = byte == 10

-- the lines, each without the byte that ends it; what stands after the last such byte is a line where it is not empty
unfoldable pub lines_of : List ℕ → List (List ℕ)
lines_of [] = []
lines_of (byte ∷ bytes) = if is_line_end byte then [] ∷ lines_of bytes else onto_first byte (lines_of bytes)
