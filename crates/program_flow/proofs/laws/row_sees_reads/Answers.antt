use Rattle.program_flow.proofs.laws.row_sees_reads.Goals as goal
use Rattle.program_flow.proofs.EqualRows.{row_sees_reads}

pub returns : goal.returns
returns c = row_sees_reads
