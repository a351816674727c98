use Rattle.std.proofs.Common.{sym, ◌∙◌}
use Rattle.expectation_files.proofs.BlankCuts.{blank_at, no_blank}
use Rattle.expectation_files.proofs.word_spans.cut_at_blank.Goals as goal

pub returns-in-Some-clause-pieces : goal.returns-in-Some-clause-pieces
returns-in-Some-clause-pieces c = blank_at c.in-Some.place c.args.text.now (sym c.in-Some.is ∙ c.find_blank.ensures)

pub returns-in-None-clause-pieces : goal.returns-in-None-clause-pieces
returns-in-None-clause-pieces c = no_blank c.args.text.now (sym c.in-None.is ∙ c.find_blank.ensures)
