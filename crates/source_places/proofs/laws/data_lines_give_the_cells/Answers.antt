use Rattle.source_places.proofs.LineCells.{give_the_cells}
use Rattle.source_places.proofs.laws.data_lines_give_the_cells.Goals as goal

pub returns : goal.returns
returns c = give_the_cells
