use Rattle.std.proofs.Common.{sym, ◌∙◌, ap, []}
use Rattle.std.specs.Option.{option_copied}
use Rattle.text_parts.proofs.Pieces.{after_found, nothing_after}
use Rattle.text_parts.proofs.FirstLine.{lines-cut}
use Rattle.text_parts.proofs.lines.split_line.Goals as goal

pub returns-in-Some-clause-after : goal.returns-in-Some-clause-after
returns-in-Some-clause-after c = after_found 10 c.args.text.now c.in-Some.after.now
    (sym (ap option_copied c.in-Some.is) ∙ c.cut.ensures.after)

pub returns-in-Some-clause-lines : goal.returns-in-Some-clause-lines
returns-in-Some-clause-lines c = lines-cut c.args.text.now c.cut.result.0.now c.in-Some.after.now c.cut.ensures.before
    (after_found 10 c.args.text.now c.in-Some.after.now
    (sym (ap option_copied c.in-Some.is) ∙ c.cut.ensures.after))

pub returns-in-None-clause-after : goal.returns-in-None-clause-after
returns-in-None-clause-after c = nothing_after 10 c.args.text.now
    (sym (ap option_copied c.in-None.is) ∙ c.cut.ensures.after)

pub returns-in-None-clause-lines : goal.returns-in-None-clause-lines
returns-in-None-clause-lines c = lines-cut c.args.text.now c.cut.result.0.now [] c.cut.ensures.before
    (nothing_after 10 c.args.text.now (sym (ap option_copied c.in-None.is) ∙ c.cut.ensures.after))
