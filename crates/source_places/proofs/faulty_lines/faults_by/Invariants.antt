use Rattle.std.proofs.Common.{◌≡◌, ◌+◌, ◌≤◌, ◌++◌, length}
use Rattle.std.specs.Option.{option_copied}
use Rattle.asm_line.specs.Labels.{places_of}
use Rattle.asm_line.specs.Lines.{lines, rest_lines}
use Rattle.text_parts.specs.Pieces.{rest_length}
use Rattle.source_places.specs.FaultyLines.{line_faults_from}
use Rattle.source_places.proofs.faulty_lines.faults_by.Given as goal

abbrev pub invariant-loop-rest : goal.invariant-loop-rest
invariant-loop-rest l = record {
  faults : l.faults.items
      ++ line_faults_from l.outline.profile (places_of l.outline.labels) l.outline.words l.number l.here
      (rest_lines (option_copied l.rest))
      ≡ line_faults_from l.outline.profile (places_of l.outline.labels) l.outline.words 0 0 (lines l.text);
  here : l.here ≤ l.number;
  number : l.number + rest_length (option_copied l.rest) ≤ length l.text + 1;
}

abbrev pub decreases-loop-rest : goal.decreases-loop-rest
decreases-loop-rest l = rest_length (option_copied l.rest)
