use Rattle.std.proofs.Common.{sym, ◌∙◌}
use Rattle.asm_line.proofs.Pieces.{nothing_behind}
use Rattle.asm_line.proofs.text.split_head.Goals as goal

pub returns-in-None-clause-behind : goal.returns-in-None-clause-behind
returns-in-None-clause-behind c = nothing_behind c.args.text.now (sym c.in-None.is ∙ c.find_blank.ensures)
