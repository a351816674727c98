use Rattle.std.proofs.Common.{◌≡◌, false, ◌+◌, ◌≤◌, ◌++◌, length}
use Rattle.std.specs.Option.{option_copied}
use Rattle.text_parts.specs.Pieces.{pieces, rest_pieces, rest_length}
use Rattle.expectation_files.specs.Faults.{faults_from}
use Rattle.expectation_files.specs.Seen.{names_in}
use Rattle.expectation_files.proofs.all_faults.line_faults.Given as goal

-- what was found, and the faults of the lines to come, are those of the text
abbrev pub invariant-loop-rest : goal.invariant-loop-rest
invariant-loop-rest l = record {
  found :
      l.faults.items ++ faults_from (names_in l.names) l.image l.has_points (l.number + 1) (rest_pieces 10 (option_copied l.rest))
      ≡ faults_from (names_in l.names) l.image false 1 (pieces 10 l.text);
  number : l.number + rest_length (option_copied l.rest) ≤ length l.text + 1;
}

abbrev pub decreases-loop-rest : goal.decreases-loop-rest
decreases-loop-rest l = rest_length (option_copied l.rest)
