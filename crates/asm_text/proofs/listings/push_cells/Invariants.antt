use Rattle.std.proofs.Common.{◌≡◌, ◌<◌, ◌^◌, ◌++◌, map, length}
use Rattle.std.specs.List.{All}
use Rattle.std.specs.Prelude.{string_bytes}
use Rattle.asm_text.specs.Runs.{cell_runs}
use Rattle.asm_text.specs.Listing.{text_of_lines, cell_run_line}
use Rattle.asm_text.proofs.listings.push_cells.Given as goal

abbrev pub invariant-loop-count : goal.invariant-loop-count
invariant-loop-count l = record {
  is : string_bytes l.text ++ text_of_lines (map cell_run_line (cell_runs l.rest))
      ≡ string_bytes l.initial.text ++ text_of_lines (map cell_run_line (cell_runs l.cells));
  fit : All (λ c. c.value < 2 ^ 64) l.rest → All (λ c. c.value < 2 ^ 64) l.cells;
}

abbrev pub decreases-loop-count : goal.decreases-loop-count
decreases-loop-count l = length l.rest
