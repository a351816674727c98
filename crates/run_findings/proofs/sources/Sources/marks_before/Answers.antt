use Rattle.std.proofs.Common.{sym, subst}
use Rattle.run_findings.specs.Sources.{AreAllAt}
use Rattle.run_findings.proofs.sources.Sources.marks_before.Goals as goal

pub returns : goal.returns
returns c =
    subst (AreAllAt c.args.actions.now c.args.step) (sym c.index.ensures)
    (c.requires.sources.any.are c.args.step _ c.requires.step_in)
