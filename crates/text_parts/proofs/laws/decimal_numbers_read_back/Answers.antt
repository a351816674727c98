-- Decimal numbers are read back.
use Rattle.text_parts.proofs.Printed.{zeros_in_front}
use Rattle.text_parts.proofs.ReadBack.{reads_back_decimal, reads_back_aligned, aligned_width}
use Rattle.text_parts.proofs.laws.decimal_numbers_read_back.Goals as goal

pub returns-clause-plain : goal.returns-clause-plain
returns-clause-plain c = reads_back_decimal

pub returns-clause-zeros : goal.returns-clause-zeros
returns-clause-zeros c = zeros_in_front

pub returns-clause-aligned : goal.returns-clause-aligned
returns-clause-aligned c = reads_back_aligned

pub returns-clause-width : goal.returns-clause-width
returns-clause-width c = aligned_width
