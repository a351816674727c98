-- What is left gives the worst of all.
use Rattle.std.proofs.Common.{◌≡◌, drop}
use Rattle.end_kinds.specs.declared.statuses.Status.TheVariants as status
use Rattle.program_searches.specs.Statuses.{worst}
use Rattle.judgements.specs.Statuses.{statuses_of}
use Rattle.judgements.proofs.submissions.status_of.Given as goal

abbrev pub invariant-loop-case : goal.invariant-loop-case
invariant-loop-case l = worst l.status (statuses_of (drop l.case-index l.cases)) ≡ worst status.Done (statuses_of l.cases)
