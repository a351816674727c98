-- Texts as strings of JSON.
use Rattle.std.specs.Prelude.{ℕ, ◌==◌, ◌/◌, ◌%◌, nat_lt, List, [], ◌∷◌, ◌++◌, codes, encode_utf8, if◌then◌else◌, false}
use Rattle.std.specs.List.{flat_map}
use Rattle.std.specs.Str.{chars}
use Rattle.std.specs.Fmt.{digit_glyph}

-- a control character by its number: `\u` and four hexadecimal digits
abbrev pub escaped_control : ℕ → List ℕ
escaped_control c = codes "\\u00" ++ digit_glyph false (c / 16) ∷ digit_glyph false (c % 16) ∷ []

-- a character in a string: a quote and a backslash stand after a backslash, a control character by its number
abbrev pub string_char : ℕ → List ℕ
string_char c =
    if c == 34 then codes "\\\""
    else (if c == 92 then codes "\\\\" else (if nat_lt c 32 then escaped_control c else encode_utf8 c))

-- a text as a string of JSON
abbrev pub quoted : List ℕ → List ℕ
quoted text = 34 ∷ flat_map string_char (chars text) ++ 34 ∷ []
