-- What is left gives what is known by all.
use Rattle.std.proofs.Common.{◌≡◌, drop}
use Rattle.judgements.specs.Verdicts.{known_of_all, of_no_case}
use Rattle.judgements.proofs.submissions.known_of_all.Given as goal

abbrev pub invariant-loop-case : goal.invariant-loop-case
invariant-loop-case l = known_of_all l.known (drop l.case-index l.cases) ≡ known_of_all of_no_case l.cases
