-- Lines of cells, and what is wrong with a text that has others.
use Rattle.std.specs.Prelude.{◌≡◌, ℕ, ⊤, nat_eq, ◌==◌, Bool, not, ◌&&◌, ◌||◌, List, ◌++◌, codes, length}
use Rattle.std.specs.Prelude.{Option, Some, IsTrue}
use Rattle.std.specs.List.{starts_with, list_all, position_from}
use Rattle.std.specs.Option.{is_none}
use Rattle.asm_line.specs.Lines.{Line, lines}
use Rattle.asm_text.specs.Sources.{HasFault}
use Rattle.case_cells.specs.declared.reading.CellsFault.{CellsFault}
use Rattle.case_cells.specs.declared.reading.CellsFault.TheVariants as fault

-- what stands behind the lines of cells, so that the assembler reads them as a program's
abbrev pub program_behind : List ℕ
program_behind = codes "\n .entry 0\n QUIT\n"

-- whether a line has no label, and its statement is one of .data or .fill, or is empty
abbrev pub is_cells_line : Line → Bool
is_cells_line l =
    is_none l.label && ((length l.statement == 0) || starts_with nat_eq l.statement (codes ".data")
    || starts_with nat_eq l.statement (codes ".fill"))

-- each line of a text is one of cells
abbrev pub HasCellsAlone : List ℕ → Type 0
HasCellsAlone text = IsTrue (list_all is_cells_line (lines text))

-- the number, from 1, of the first line of a text that is none of cells
abbrev pub first_other_line : List ℕ → Option ℕ
first_other_line text = position_from (λ l. not (is_cells_line l)) 1 (lines text)

-- What is wrong with a text of cells: its first line that is none of cells; else what the assembler finds in its lines
-- with the program behind them. That memory was refused may come in place of any answer.
abbrev pub HasCellsFault : List ℕ → CellsFault → Type 0
HasCellsFault text (fault.Line number) = first_other_line text ≡ Some number
HasCellsFault text (fault.Source e) = HasCellsAlone text × HasFault (text ++ program_behind) e
HasCellsFault text fault.NoMemory = ⊤
