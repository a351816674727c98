use Rattle.std.proofs.Common.{◌∙◌, sym, false, ap}
use Rattle.run_findings.specs.Marks.{marks_after_deed}
use Rattle.run_findings.specs.Needs.{are_shared}
use Rattle.run_findings.proofs.Needed.{target_off}
use Rattle.run_findings.proofs.marks.Marks.needed_before.Goals as goal

pub returns-in-Trap : goal.returns-in-Trap
returns-in-Trap c m part =
    let n = c.args.self in
    ap (λ deed. are_shared (marks_after_deed m deed false) n) c.in-Trap.is
    ∙ target_off m n 0
    ∙ ap (λ ts. are_shared m (record n { targets = ts })) (sym c.with_target_mark.ensures)
