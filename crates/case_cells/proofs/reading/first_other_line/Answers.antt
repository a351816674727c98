use Rattle.std.proofs.Common.{◌≡◌, ◌∷◌, ◌+◌, true, not, cond, Some, ◌&&◌, List, sym, ap, ◌∙◌, arith, rules}
use Rattle.std.specs.List.{list_all, position_from}
use Rattle.std.specs.Option.{option_copied}
use Rattle.asm_line.specs.Lines.{Line, rest_lines}
use Rattle.asm_line.specs.SourceLines.{line_seen}
use Rattle.text_parts.specs.Pieces.{rest_length}
use Rattle.case_cells.specs.CellLines.{is_cells_line}
use Rattle.case_cells.proofs.reading.first_other_line.Goals as goal

pub loop-rest-preserved : goal.loop-rest-preserved
loop-rest-preserved c =
    let l = line_seen c.next_source_line.result.0 in
    let ls = rest_lines (option_copied c.next_source_line.result.1) in
    let first : rest_lines (option_copied c.loop-rest.rest) ≡ l ∷ ls =
    ap (λ r. rest_lines (option_copied r)) c.in-Some.is ∙ c.next_source_line.ensures.lines in
    let n = c.loop-rest.number + 1 in
    let so : is_cells_line l ≡ true = search rules in
    record {
      number = omega (
        arith,
        ap (λ r. rest_length (option_copied r)) c.in-Some.is,
        c.next_source_line.ensures.shorter,
        c.loop-rest.invariant.number,
      );
      cells = ap (λ b. b && list_all is_cells_line ls) (sym so)
          ∙ sym (ap (λ (xs : List Line). list_all is_cells_line xs) first) ∙ c.loop-rest.invariant.cells;
      first =
          ap (λ b. cond (not b) (Some n) (position_from (λ m. not (is_cells_line m)) (n + 1) ls)) (sym so)
          ∙ sym (ap (λ (xs : List Line). position_from (λ m. not (is_cells_line m)) n xs) first)
          ∙ c.loop-rest.invariant.first;
    }
