use Rattle.std.proofs.Common.{◌≡◌, false}
use Rattle.std.specs.Option.{option_copied}
use Rattle.text_parts.specs.Pieces.{pieces, rest_pieces, rest_length}
use Rattle.expectation_files.specs.Marks.{marks_from}
use Rattle.expectation_files.proofs.marks.case_marks.Given as goal

-- what the lines to come say after what was found is what the text says
abbrev pub invariant-loop-rest : goal.invariant-loop-rest
invariant-loop-rest l =
    marks_from l.marks (rest_pieces 10 (option_copied l.rest))
    ≡ marks_from (record { points = 1; is_hidden = false }) (pieces 10 l.text)

abbrev pub decreases-loop-rest : goal.decreases-loop-rest
decreases-loop-rest l = rest_length (option_copied l.rest)
