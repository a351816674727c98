use Rattle.run_findings.specs.TornReads.{meets}
use Rattle.run_findings.proofs.Chains.{link-is, link-below}
use Rattle.run_findings.specs.declared.parting.Meeting.TheVariants as meeting
use Rattle.run_findings.proofs.searching.last_read.Goals as goal

pub returns-clause-below : goal.returns-clause-below
returns-clause-below c =
    link-below c.args.actions.now (meets meeting.Reads c.args.word) _ c.args.end
    (link-is meeting.Reads c.args.actions.now c.args.past_reads.now c.args.end c.args.word _ c.requires.linked
    c.requires.end_in c.requires.word_is)
