use Rattle.asm_text.proofs.RunCells.{runs_are_cells, runs_have_cells, runs_are_maximal}
use Rattle.asm_text.proofs.laws.cells_are_their_runs.Goals as goal

pub returns : goal.returns
returns c = record { cells = runs_are_cells; some = runs_have_cells; maximal = runs_are_maximal }
