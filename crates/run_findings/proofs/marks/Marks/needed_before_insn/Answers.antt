use Rattle.std.proofs.Common.{◌∙◌, sym, false, ap, cond}
use Rattle.run_findings.specs.Marks.{no_marks, marks_after, marks_after_parts}
use Rattle.run_findings.specs.Needs.{are_shared}
use Rattle.run_findings.proofs.Needed.{none_shared, shared_none}
use Rattle.run_findings.proofs.marks.Marks.needed_before_insn.Goals as goal

pub returns-then-is_quit : goal.returns-then-is_quit
returns-then-is_quit c m part =
    let n = c.args.self in
    let w = c.in-Normal in
    let more = marks_after_parts m w.m w.a w.c false in
    ap (λ insn. are_shared (marks_after m insn false) n) w.is
    ∙ ap (λ t. are_shared (cond t no_marks more) n) (sym c.is_quit.ensures ∙ c.if-is_quit.true)
    ∙ shared_none n ∙ sym (none_shared m)
