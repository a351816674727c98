use Rattle.std.proofs.Common.{◌∙◌, sym, ap, ◌||◌}
use Rattle.run_findings.specs.Marks.{mark_at, stores_marked}
use Rattle.run_findings.specs.declared.actions.Deed.TheVariants as deed
use Rattle.run_findings.proofs.Needed.{none_shared, or_none}
use Rattle.run_findings.proofs.marks.Marks.needed_by_store.Goals as goal

pub returns-in-Normal : goal.returns-in-Normal
returns-in-Normal c m part =
    let mark = mark_at m.registers c.in-Normal.m.rd in
    c.with_register.ensures m part ∙ ap (λ t. mark || t) (none_shared m) ∙ or_none mark
    ∙ sym (ap (λ insn. stores_marked (deed.Instruction insn) m) c.in-Normal.is)
