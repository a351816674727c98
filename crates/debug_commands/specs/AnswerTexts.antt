-- The text of an answer.
use Rattle.std.specs.Prelude.{ℕ, List, [], ◌∷◌, ◌++◌, codes}
use Rattle.std.specs.Fmt.{decimal}
use Rattle.text_parts.specs.Digits.{hexadecimal_16, hexadecimal_12, hexadecimal_digit}
use Rattle.tag_memory.specs.Cell.{Cell, tag_number}
use Rattle.stream_core.specs.StreamText.{stream_text_of}
use Rattle.debug_commands.specs.declared.answers.Why.{Why}
use Rattle.debug_commands.specs.declared.answers.Why.TheVariants.{Moved, Stop, End, Start}
use Rattle.debug_commands.specs.declared.answers.Answer.{Answer}
use Rattle.debug_commands.specs.declared.answers.Answer.TheVariants.{At, Point, Gone, Stream, Words}

-- the word for each reason of a move
abbrev pub why_text : Why → List ℕ
why_text Moved = codes "moved"
why_text Stop = codes "stop"
why_text End = codes "end"
why_text Start = codes "start"

-- at k moved, at k stop, at k end or at k start
unfoldable pub place_line : ℕ → Why → List ℕ
place_line k why = codes "at " ++ decimal k ++ codes " " ++ why_text why ++ codes "\n"

-- a word, and the key of a point
unfoldable pub key_line : List ℕ → ℕ → List ℕ
key_line word key = word ++ codes " " ++ decimal key ++ codes "\n"

-- a word of the memory behind its address: its value, and its tags as one digit
unfoldable pub seen_word_line : ℕ × Cell → List ℕ
seen_word_line w =
    hexadecimal_12 w.0 ++ codes " " ++ hexadecimal_16 w.1.value ++ codes " "
    ++ hexadecimal_digit (tag_number w.1) ++ codes "\n"

-- the lines of words of the memory
abbrev pub seen_word_lines : List (ℕ × Cell) → List ℕ
seen_word_lines [] = []
seen_word_lines (w ∷ ws) = seen_word_line w ++ seen_word_lines ws

-- the text of each answer
unfoldable pub answer_text_of : Answer → List ℕ
answer_text_of (At k why) = place_line k why
answer_text_of (Point key) = key_line (codes "point") key
answer_text_of (Gone key) = key_line (codes "gone") key
answer_text_of (Stream stream) = stream_text_of stream
answer_text_of (Words words) = seen_word_lines words
