-- Maximal runs of equal cells.
use Rattle.std.specs.Prelude.{List}
use Rattle.text_parts.specs.Runs.{Run, runs_of}
use Rattle.tag_memory.specs.Cell.{Cell}
use Rattle.image_file.specs.Same.{same_cell}

-- the cells as maximal runs of equal ones
abbrev pub cell_runs : List Cell → List (Run Cell)
cell_runs cells = runs_of same_cell cells
