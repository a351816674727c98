-- Source texts whose comments are in ASCII.
use Rattle.std.specs.Prelude.{ℕ, nat_lt, if◌then◌else◌, List, ◌++◌, length, map, drop}
use Rattle.text_parts.specs.Pieces.{text_before}

-- a byte in ASCII: one that is not ASCII is a question mark
abbrev pub ascii_byte : ℕ → ℕ
ascii_byte b = if nat_lt b 128 then b else 63

-- a line with its comment, which begins at its first semicolon, in ASCII
abbrev pub ascii_line : List ℕ → List ℕ
ascii_line line =
    let code = text_before 59 line in
    code ++ map ascii_byte (drop (length code) line)
