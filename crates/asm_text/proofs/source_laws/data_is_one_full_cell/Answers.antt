use Rattle.asm_text.proofs.DataFill.{data_lines}
use Rattle.asm_text.proofs.DataTexts.{data_texts}
use Rattle.asm_text.proofs.source_laws.data_is_one_full_cell.Goals as goal

pub returns : goal.returns
returns c = record { lines = data_lines; texts = data_texts }
