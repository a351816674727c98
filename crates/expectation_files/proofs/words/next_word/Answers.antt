use Rattle.std.proofs.Common.{sym, ◌∙◌}
use Rattle.expectation_files.proofs.WordCuts.{word-cut, word-alone, no_word}
use Rattle.expectation_files.proofs.words.next_word.Goals as goal

pub returns-then-is_empty : goal.returns-then-is_empty
returns-then-is_empty c = no_word c.args.text.now c.without_first_blanks-text.result.now
    c.without_first_blanks-text.ensures (sym c.is_empty.ensures ∙ c.if-is_empty.true)

pub returns-in-Some : goal.returns-in-Some
returns-in-Some c = word-cut c.args.text.now c.without_first_blanks-text.result.now c.in-Some.end
    c.without_first_blanks-text.ensures (sym c.is_empty.ensures ∙ c.if-is_empty.false)
    (sym c.in-Some.is ∙ c.find_blank.ensures)

pub returns-in-None : goal.returns-in-None
returns-in-None c = word-alone c.args.text.now c.without_first_blanks-text.result.now
    c.without_first_blanks-text.ensures (sym c.is_empty.ensures ∙ c.if-is_empty.false)
    (sym c.in-None.is ∙ c.find_blank.ensures)
