-- Whether each line is one of cells is whether each of those that are left is, and the first other line is theirs.
use Rattle.std.proofs.Common.{◌≡◌, ◌+◌, ◌≤◌, not, length}
use Rattle.std.specs.List.{list_all, position_from}
use Rattle.std.specs.Option.{option_copied}
use Rattle.asm_line.specs.Lines.{lines, rest_lines}
use Rattle.text_parts.specs.Pieces.{rest_length}
use Rattle.case_cells.specs.CellLines.{is_cells_line, first_other_line}
use Rattle.case_cells.proofs.reading.first_other_line.Given as goal

abbrev pub invariant-loop-rest : goal.invariant-loop-rest
invariant-loop-rest l = record {
  number : l.number + rest_length (option_copied l.rest) ≤ length l.text + 1;
  first : position_from (λ c. not (is_cells_line c)) (l.number + 1) (rest_lines (option_copied l.rest))
      ≡ first_other_line l.text;
  cells : list_all is_cells_line (rest_lines (option_copied l.rest)) ≡ list_all is_cells_line (lines l.text);
}

abbrev pub decreases-loop-rest : goal.decreases-loop-rest
decreases-loop-rest l = rest_length (option_copied l.rest)
