use Rattle.std.proofs.Common.{◌≡◌, false, ◌+◌, ◌≤◌, length}
use Rattle.std.specs.Option.{option_copied}
use Rattle.text_parts.specs.Pieces.{pieces, rest_pieces, rest_length}
use Rattle.expectation_files.specs.Files.{lines_said, in_front}
use Rattle.expectation_files.specs.Seen.{names_in, requirements_seen}
use Rattle.expectation_files.proofs.reading.read_requirements.Given as goal

-- what was found, in front of what the lines to come say, is what the text says
abbrev pub invariant-loop-rest : goal.invariant-loop-rest
invariant-loop-rest l = record {
  found :
      in_front (requirements_seen l.found)
      (lines_said (names_in l.names) l.image l.has_points (l.number + 1) (rest_pieces 10 (option_copied l.rest)))
      ≡ lines_said (names_in l.names) l.image false 1 (pieces 10 l.text);
  number : l.number + rest_length (option_copied l.rest) ≤ length l.text + 1;
}

abbrev pub decreases-loop-rest : goal.decreases-loop-rest
decreases-loop-rest l = rest_length (option_copied l.rest)
