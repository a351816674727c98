-- Printed digits are read back, and 16 digits say no more than 64 bits.
use Rattle.text_parts.proofs.Read.{fits_word}
use Rattle.text_parts.proofs.ReadBack.{reads_back}
use Rattle.text_parts.proofs.laws.printed_digits_read_back.Goals as goal

pub returns-clause-reads_back : goal.returns-clause-reads_back
returns-clause-reads_back c = reads_back

pub returns-clause-fits : goal.returns-clause-fits
returns-clause-fits c = fits_word
