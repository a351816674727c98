use Rattle.std.proofs.Common.{ap, ◌∙◌, sym}
use Rattle.run_findings.specs.Needs.{are_shared}
use Rattle.run_findings.proofs.Needed.{wide_needed}
use Rattle.run_findings.proofs.marks.Marks.needed_before_wide.Goals as goal

pub returns : goal.returns
returns c m =
    wide_needed m c.args.self c.args.op c.args.reg ∙ ap (are_shared m) (sym c.after_wide.ensures)
