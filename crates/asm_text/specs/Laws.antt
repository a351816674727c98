-- Laws of listings and of runs.
use Rattle.std.specs.Prelude.{◌≡◌, ℕ, ◌≤◌, List}
use Rattle.std.specs.List.{flat_map, AllByRecursion}
use Rattle.tag_memory.specs.Cell.{Cell}
use Rattle.image_file.specs.ImageValue.{ImageValue, IsWithin}
use Rattle.image_file.specs.Spelling.{Fits}
use Rattle.text_parts.specs.Runs.{Run, run_things, NeighboursDiffer}
use Rattle.asm_text.specs.Sources.{Means}
use Rattle.asm_text.specs.Runs.{cell_runs}
use Rattle.asm_text.specs.Listing.{listing}

-- A listing means the image that it was made of. Every image of the program is within its limits and fits its fields.
abbrev pub ListingsReadBack : Type 0
ListingsReadBack = (i : ImageValue) → IsWithin i → Fits i → Means (listing i) i

-- a text means one image at most
abbrev pub OneMeaning : Type 0
OneMeaning = (text : List ℕ) (i j : ImageValue) → Means text i → Means text j → i ≡ j

-- Runs, one after another, are the cells.
abbrev pub RunsAreCells : Type 0
RunsAreCells = (cells : List Cell) → flat_map run_things (cell_runs cells) ≡ cells

-- No run is empty.
abbrev pub RunsHaveCells : Type 0
RunsHaveCells = (cells : List Cell) → AllByRecursion (λ (r : Run Cell). 1 ≤ r.times) (cell_runs cells)

-- A run is as long as it can be: the next one has another cell.
abbrev pub RunsAreMaximal : Type 0
RunsAreMaximal = (cells : List Cell) → NeighboursDiffer (cell_runs cells)
