-- The comments of source texts.
use Rattle.std.specs.Prelude.{ℕ, ◌+◌, List, [], ◌∷◌, ◌++◌, reverse, Option, Some, None}
use Rattle.text_parts.specs.Pieces.{pieces, text_after}
use Rattle.asm_line.specs.Text.{skip_blanks}

-- without the blanks at its end
abbrev pub without_last_blanks : List ℕ → List ℕ
without_last_blanks bytes = reverse (skip_blanks (reverse bytes))

-- a comment: its line, from 0, and what follows the line's first semicolon, without the blanks at its end
pub record CommentValue : Type 0 where
  pub number : ℕ
  pub bytes : List ℕ

-- the comment of line k, if this follows its first semicolon
abbrev pub comment_on : ℕ → Option (List ℕ) → List CommentValue
comment_on k None = []
comment_on k (Some bytes) = record { number = k; bytes = without_last_blanks bytes } ∷ []

-- the comments of lines of which the first is line k
abbrev pub comments_from : ℕ → List (List ℕ) → List CommentValue
comments_from k [] = []
comments_from k (b ∷ bs) = comment_on k (text_after 59 b) ++ comments_from (k + 1) bs

-- the comments of a text, in the order of its lines
abbrev pub comments_of : List ℕ → List CommentValue
comments_of text = comments_from 0 (pieces 10 text)
