-- Digits of a fixed width are read back.
use Rattle.text_parts.proofs.ReadBack.{fixed_width, digits_read_back}
use Rattle.text_parts.proofs.laws.fixed_widths_read_back.Goals as goal

pub returns-clause-width : goal.returns-clause-width
returns-clause-width c = fixed_width

pub returns-clause-reads_back : goal.returns-clause-reads_back
returns-clause-reads_back c = digits_read_back
