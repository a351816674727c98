use Rattle.std.proofs.Common.{sym, ◌∙◌}
use Rattle.text_parts.proofs.Pieces.{cut_at, cut_nowhere}
use Rattle.text_parts.proofs.cutting.cut.Goals as goal

pub returns-in-Some-clause-pieces : goal.returns-in-Some-clause-pieces
returns-in-Some-clause-pieces c =
    cut_at c.args.byte c.in-Some.place c.args.text.now (sym c.in-Some.is ∙ c.find.ensures)

pub returns-in-None-clause-pieces : goal.returns-in-None-clause-pieces
returns-in-None-clause-pieces c = cut_nowhere c.args.byte c.args.text.now (sym c.in-None.is ∙ c.find.ensures)
