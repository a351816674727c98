use Rattle.asm_text.proofs.Kept.{add_keeps}
use Rattle.asm_text.proofs.source.take_line.Goals as goal

pub returns-clause-kept : goal.returns-clause-kept
returns-clause-kept c =
    add_keeps c.args.outline.now.profile c.args.outline.now.words _ _ _ c.add.result _ c.in_ok-item.ensures.range c.add.ensures
