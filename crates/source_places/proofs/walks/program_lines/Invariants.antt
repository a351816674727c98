use Rattle.std.proofs.Common.{◌≡◌, ◌+◌, ◌≤◌, ◌++◌, length}
use Rattle.std.specs.Option.{option_copied}
use Rattle.text_parts.specs.Pieces.{pieces, rest_pieces, rest_length}
use Rattle.source_places.specs.ProgramLines.{program_lines_from}
use Rattle.source_places.specs.SourcePlaces.{lines_seen}
use Rattle.source_places.proofs.walks.program_lines.Given as goal

abbrev pub invariant-loop-rest : goal.invariant-loop-rest
invariant-loop-rest l = record {
  lines : lines_seen l.lines.items ++ program_lines_from l.number (rest_pieces 10 (option_copied l.rest))
      ≡ program_lines_from 0 (pieces 10 l.text);
  number : l.number + rest_length (option_copied l.rest) ≤ length l.text + 1;
}

abbrev pub decreases-loop-rest : goal.decreases-loop-rest
decreases-loop-rest l = rest_length (option_copied l.rest)
