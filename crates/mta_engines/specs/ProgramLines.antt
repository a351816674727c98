-- The program words that the lines of a text spell, and the least line with a fault.
use Rattle.std.specs.Prelude.{ℕ, ◌+◌, min, List, [], ◌∷◌, length, Option, Some, None, Result, Ok, Err, is_some}
use Rattle.std.specs.Prelude.{nat_le, ◌==◌, if◌then◌else◌}
use Rattle.std.specs.List.{filter_map}
use Rattle.text_parts.specs.Reading.{hexadecimal_word}
use Rattle.text_parts.specs.Lines.{lines_of}
use Rattle.image_file.specs.ImageValue.{most_program_words}
use Rattle.mta_engines.specs.declared.tool_fault.ToolFault.{ToolFault}
use Rattle.mta_engines.specs.declared.tool_fault.ToolFault.TheVariants.{Words}

-- the first line that is not 16 hexadecimal digits, where the lines are numbered from n on
abbrev pub malformed_from : ℕ → List (List ℕ) → Option ℕ
malformed_from n [] = None
malformed_from n (line ∷ lines) = if is_some (hexadecimal_word line) then malformed_from (n + 1) lines else Some n

-- a text without lines has its fault on line 1
abbrev pub empty_fault : ℕ → Option ℕ
empty_fault count = if count == 0 then Some 1 else None

-- the first line past the most words that a program has
abbrev pub too_many_fault : ℕ → Option ℕ
too_many_fault count = if nat_le count most_program_words then None else Some (most_program_words + 1)

-- the lesser of two lines, where there are any
abbrev pub least_line : Option ℕ → Option ℕ → Option ℕ
least_line None other = other
least_line (Some line) None = Some line
least_line (Some line) (Some other) = Some (min line other)

-- the least line with a fault, if there is one
abbrev pub program_line_fault : List (List ℕ) → Option ℕ
program_line_fault lines =
    least_line (malformed_from 1 lines) (least_line (empty_fault (length lines)) (too_many_fault (length lines)))

-- the words, or the fault of a line
abbrev pub words_unless : Option ℕ → List ℕ → Result (List ℕ) ToolFault
words_unless None words = Ok words
words_unless (Some line) words = Err (Words line)

-- the words that the text's lines spell, one a line, or the fault
unfoldable pub program_of : List ℕ → Result (List ℕ) ToolFault
program_of text = words_unless (program_line_fault (lines_of text)) (filter_map hexadecimal_word (lines_of text))
