use Rattle.std.proofs.Common.{sym, ◌∙◌}
use Rattle.asm_line.proofs.CodeCut.{code_whole, no_line_after, code_found, at_line_end, line_after}
use Rattle.asm_line.proofs.lines.next_code.Goals as goal

pub returns-in_default-clause-code : goal.returns-in_default-clause-code
returns-in_default-clause-code c = code_whole c.args.text.now (sym c.in_default.is ∙ c.find_either.ensures)

pub returns-in_default-clause-after : goal.returns-in_default-clause-after
returns-in_default-clause-after c = no_line_after c.args.text.now (sym c.in_default.is ∙ c.find_either.ensures)

pub returns-then-text-place-eq10-clause-code : goal.returns-then-text-place-eq10-clause-code
returns-then-text-place-eq10-clause-code c =
    code_found c.args.text.now c.in-Some.place (sym c.in-Some.is ∙ c.find_either.ensures)

pub returns-then-text-place-eq10-clause-after : goal.returns-then-text-place-eq10-clause-after
returns-then-text-place-eq10-clause-after c =
    at_line_end c.args.text.now c.in-Some.place (sym c.in-Some.is ∙ c.find_either.ensures)
    c.if-text-place-eq10.true

pub returns-clause-code : goal.returns-clause-code
returns-clause-code c = code_found c.args.text.now c.in-Some.place (sym c.in-Some.is ∙ c.find_either.ensures)

pub returns-clause-after : goal.returns-clause-after
returns-clause-after c =
    c.cut.ensures.after
    ∙ line_after c.args.text.now c.in-Some.place (sym c.in-Some.is ∙ c.find_either.ensures)
