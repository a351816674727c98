use Rattle.std.proofs.Common.{sym, ap, ◌∙◌}
use Rattle.run_findings.specs.Actions.{read_by}
use Rattle.run_findings.specs.Places.{last_before}
use Rattle.run_findings.specs.Links.{later}
use Rattle.run_findings.proofs.Chains.{written-or-read}
use Rattle.run_findings.proofs.searching.last_written_or_read.Goals as goal

pub returns-clause-is : goal.returns-clause-is
returns-clause-is c =
    let ds = c.args.actions.now in
    c.later.ensures
    ∙ c.last_read_after.ensures.is
    ∙ ap (λ o. later o (last_before (read_by c.args.stream c.args.word) ds c.args.end)) c.last_write-write.ensures.is
    ∙ sym (written-or-read ds c.args.stream c.args.word c.args.end)
