use Rattle.std.proofs.Common.{◌≡◌, ◌<◌, ◌^◌, ◌++◌, take}
use Rattle.std.specs.List.{flat_map, All}
use Rattle.image_file.specs.Spelling.{cell_bytes}
use Rattle.image_file.proofs.writing.put_cells.Given as goal

abbrev pub invariant-loop-cell : goal.invariant-loop-cell
invariant-loop-cell l = record {
  is : l.out.items ≡ l.initial.out.items ++ flat_map cell_bytes (take l.cell-index l.cells);
  fit : All (λ c. c.value < 2 ^ 64) (take l.cell-index l.cells);
}
