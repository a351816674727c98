use Rattle.trace_text.proofs.ReadBack.{reads_back}
use Rattle.trace_text.proofs.laws.written_schedules_are_read_back.Goals as goal

pub returns : goal.returns
returns c = reads_back c.decimal_numbers_read_back.ensures.plain
