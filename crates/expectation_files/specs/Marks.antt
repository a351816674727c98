-- What a file of expectations says of the case that it belongs to, whatever the program.
use Rattle.std.specs.Prelude.{ℕ, true, false, if◌then◌else◌, List, [], ◌∷◌, codes}
use Rattle.std.specs.Prelude.{Option, Some, None, Result, Ok, Err}
use Rattle.std.specs.Str.{bytes_eq}
use Rattle.text_parts.specs.Pieces.{pieces}
use Rattle.expectation_files.specs.Words.{words_on}
use Rattle.expectation_files.specs.Values.{points_named}
use Rattle.expectation_files.specs.WordLines.{at}
use Rattle.expectation_files.specs.declared.marks.CaseMark.{CaseMark}
use Rattle.expectation_files.specs.declared.marks.CaseMark.TheVariants as mark
use Rattle.expectation_files.specs.declared.marks.CaseMarks.{CaseMarks}
use Rattle.expectation_files.specs.declared.faults.LineFault.{LineFault}
use Rattle.expectation_files.specs.declared.faults.LineFaultKind.TheVariants as fault
use Rattle.expectation_files.specs.declared.faults.LineForm.TheVariants as form

abbrev pub MarkSaid : Type 0
MarkSaid = Result CaseMark LineFault

abbrev pub points_of : Option ℕ → MarkSaid
points_of None = at 1 fault.Worth
points_of (Some n) = Ok (mark.Points n)

-- COUNT
abbrev pub points_said : List (List ℕ) → MarkSaid
points_said (n ∷ []) = points_of (points_named n)
points_said _ = at 0 (fault.Form form.Points)

-- nothing
abbrev pub hidden_said : List (List ℕ) → MarkSaid
hidden_said [] = Ok mark.Hidden
hidden_said _ = at 0 (fault.Form form.Hidden)

abbrev pub mark_named : List ℕ → List (List ℕ) → MarkSaid
mark_named name os =
    if bytes_eq name (codes "points") then points_said os
    else (if bytes_eq name (codes "hidden") then hidden_said os
    else at 0 fault.Unknown)

-- these marks, and one more
abbrev pub marks_with : CaseMarks → MarkSaid → CaseMarks
marks_with ms (Ok (mark.Points n)) = record ms { points = n }
marks_with ms (Ok mark.Hidden) = record ms { is_hidden = true }
marks_with ms (Err f) = ms

-- these marks, and what a line with these words says
abbrev pub marks_by : CaseMarks → List (List ℕ) → CaseMarks
marks_by ms [] = ms
marks_by ms (name ∷ os) = marks_with ms (mark_named name os)

-- these marks, and what lines say
abbrev pub marks_from : CaseMarks → List (List ℕ) → CaseMarks
marks_from ms [] = ms
marks_from ms (l ∷ ls) = marks_from (marks_by ms (words_on l)) ls

-- a case has one point and is not hidden where no line says so
unfoldable pub marks_in : List ℕ → CaseMarks
marks_in text = marks_from (record { points = 1; is_hidden = false }) (pieces 10 text)
