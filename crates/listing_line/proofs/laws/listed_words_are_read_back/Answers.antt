-- By the laws of spelling and of printed digits.
use Rattle.listing_line.proofs.Lines.{word-lines}
use Rattle.listing_line.proofs.laws.listed_words_are_read_back.Goals as goal

pub returns : goal.returns
returns c = word-lines c.spelling_is_one_to_one.ensures.computed c.printed_digits_read_back.ensures.reads_back
