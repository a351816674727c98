-- The law of data lines: their data words are the cells that the assembler makes of them.
use Rattle.std.specs.Prelude.{◌≡◌, ℕ, List, length, take, drop, map, replicate, slice_get, Result, Ok, Some, sum_by}
use Rattle.tag_memory.specs.Cell.{cell_of}
use Rattle.image_file.specs.ImageValue.{ImageValue}
use Rattle.text_parts.specs.Pieces.{pieces}
use Rattle.asm_line.specs.Lines.{line, lines, line_item, place, count_words}
use Rattle.asm_line.specs.Profiles.{profile_of}
use Rattle.asm_line.specs.declared.fault.Fault.{Fault}
use Rattle.asm_line.specs.declared.item.Item.{Item}
use Rattle.asm_line.specs.declared.item.Item.TheVariants as item
use Rattle.asm_text.specs.Sources.{Means}
use Rattle.source_places.specs.DataLines.{DataLineValue, data_lines}

-- what the assembler reads on line k of a text, which has these bytes
abbrev pub item_read : List ℕ → ℕ → List ℕ → Result Item Fault
item_read text k bytes =
    let ls = lines text in
    line_item (profile_of ls) (place ls) (count_words ls) k (count_words (map line (take k (pieces 10 text)))) (line bytes)

-- A line of a text, with the assembler's reading of it: it gives so many cells of this value and these tags, and they
-- are those of the image from the line's first data word on.
pub record GivesCells (text : List ℕ) (image : ImageValue) (l : DataLineValue) : Type 0 where
  pub value : ℕ
  pub tags : ℕ
  pub stands : slice_get (pieces 10 text) l.number ≡ Some l.bytes
  pub reads : item_read text l.number l.bytes ≡ Ok (item.Cells l.count value tags)
  pub cells : take l.count (drop l.first image.cells) ≡ replicate l.count (cell_of value tags)

-- If a text means an image, each of its data lines gives the cells that are said to be the line's, and together they
-- give all cells of the image.
pub record CellsAreOfLines (text : List ℕ) (image : ImageValue) : Type 0 where
  pub each : (n : ℕ) (l : DataLineValue) → slice_get (data_lines text) n ≡ Some l → GivesCells text image l
  pub all : sum_by (λ l. l.count) (data_lines text) ≡ length image.cells

abbrev pub DataLinesGiveTheCells : Type 0
DataLinesGiveTheCells = (text : List ℕ) (image : ImageValue) → Means text image → CellsAreOfLines text image
