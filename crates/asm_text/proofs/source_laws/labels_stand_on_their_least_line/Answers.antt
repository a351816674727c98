use Rattle.asm_text.proofs.LabelPlaces.{stand_first, missing}
use Rattle.asm_text.proofs.source_laws.labels_stand_on_their_least_line.Goals as goal

pub returns : goal.returns
returns c = record { first = stand_first; missing = missing }
