use Rattle.std.proofs.Common.{◌≡◌, ◌-◌, []}
use Rattle.std.specs.List.{slice_index_or}
use Rattle.std.specs.Option.{option_copied}
use Rattle.text_parts.specs.Pieces.{pieces, rest_pieces, rest_length}
use Rattle.expectation_files.proofs.written_lines.line_of.Given as goal

abbrev pub invariant-loop-rest : goal.invariant-loop-rest
invariant-loop-rest l =
    slice_index_or (rest_pieces 10 (option_copied l.rest)) l.left [] ≡ slice_index_or (pieces 10 l.text) (l.number - 1) []

abbrev pub decreases-loop-rest : goal.decreases-loop-rest
decreases-loop-rest l = rest_length (option_copied l.rest)
