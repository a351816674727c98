use Rattle.asm_text.proofs.LineFaults.{faults_first, lines_add_up}
use Rattle.asm_text.proofs.source_laws.faults_are_on_their_least_line.Goals as goal

pub returns : goal.returns
returns c = record { fault = faults_first; means = lines_add_up }
