-- Where the words of a line stand.
use Rattle.std.specs.Prelude.{ℕ, ◌+◌, List, [], ◌∷◌, length, filter, Option, Some, None}
use Rattle.std.specs.List.{slice_split, slice_get}
use Rattle.expectation_files.specs.Words.{is_blank, is_word, statement}
use Rattle.expectation_files.specs.declared.word_spans.WordSpan.{WordSpan}

-- a piece of a line, and how many bytes of the line stand before it
pub record PlacedPiece : Type 0 where
  pub before : ℕ
  pub bytes : List ℕ

-- pieces with one blank between each two, the first after so many bytes
abbrev pub placed_from : ℕ → List (List ℕ) → List PlacedPiece
placed_from k [] = []
placed_from k (p ∷ ps) = record { before = k; bytes = p } ∷ placed_from (k + length p + 1) ps

-- the pieces that are words
abbrev pub words_among : List PlacedPiece → List PlacedPiece
words_among ps = filter (λ (p : PlacedPiece). is_word p.bytes) ps

-- the words of a line, each with its place
abbrev pub placed_words : List ℕ → List PlacedPiece
placed_words line = words_among (placed_from 0 (slice_split is_blank (statement line)))

-- how many bytes stand before the end of the last word, where so many stand before the end of the words before these
abbrev pub end_after : ℕ → List PlacedPiece → ℕ
end_after e [] = e
end_after e (w ∷ ws) = end_after (w.before + length w.bytes) ws

-- where a word stands, by column and width; a word that is not there stands after the end
abbrev pub span_of : ℕ → Option PlacedPiece → WordSpan
span_of e None = record { column = e + 1; width = 0 }
span_of e (Some w) = record { column = w.before + 1; width = length w.bytes }

-- where the word of this number stands, from 0 for the first of these; the words before them end after so many bytes
abbrev pub span_after : ℕ → List PlacedPiece → ℕ → WordSpan
span_after e ws number = span_of (end_after e ws) (slice_get ws number)

-- where the word of this number stands, from 0 for the first one of a line
abbrev pub span_numbered : List PlacedPiece → ℕ → WordSpan
span_numbered ws number = span_after 0 ws number

-- the pieces between the blanks of what is left of a text; loops over pieces go by these
abbrev pub rest_between_blanks : Option (List ℕ) → List (List ℕ)
rest_between_blanks None = []
rest_between_blanks (Some text) = slice_split is_blank text
