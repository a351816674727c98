use Rattle.std.proofs.Common.{sym, ap, ◌∙◌}
use Rattle.run_findings.specs.Actions.{reads}
use Rattle.run_findings.specs.Places.{last_before}
use Rattle.run_findings.specs.Links.{later}
use Rattle.run_findings.proofs.Chains.{met-is}
use Rattle.run_findings.proofs.searching.last_met.Goals as goal

pub returns-clause-is : goal.returns-clause-is
returns-clause-is c =
    let ds = c.args.actions.now in
    c.later.ensures
    ∙ ap (λ o. later o c.last_write.result) c.last_read.ensures.is
    ∙ ap (later (last_before (reads c.args.word) ds c.args.end)) c.last_write.ensures.is
    ∙ sym (met-is ds c.args.word c.args.end)
