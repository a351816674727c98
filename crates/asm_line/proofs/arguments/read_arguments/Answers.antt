use Rattle.std.proofs.Common.{sym, ◌∙◌, ap}
use Rattle.std.specs.Option.{option_copied}
use Rattle.asm_line.proofs.Pieces.{more_operands}
use Rattle.asm_line.proofs.arguments.read_arguments.Goals as goal

pub returns-in-Some-rest-2 : goal.returns-in-Some-rest-2
returns-in-Some-rest-2 c =
    more_operands c.args.text.now _ _ _ _ _ _ _ _ _ (sym c.is_empty.ensures ∙ c.if-is_empty.false)
    c.cut.ensures.pieces (ap option_copied c.in-Some.is)
    c.cut-2.ensures.pieces (ap option_copied c.in-Some-rest.is)
    c.cut-3.ensures.pieces (ap option_copied c.in-Some-rest-2.is)
