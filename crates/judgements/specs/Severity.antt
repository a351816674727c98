-- How severe verdicts are.
use Rattle.std.specs.Prelude.{ℕ}
use Rattle.judgements.specs.declared.verdict_kinds.VerdictKind.{VerdictKind}
use Rattle.judgements.specs.declared.verdict_kinds.VerdictKind.TheVariants as verdict

-- the greatest of several cases decides: a proved mistake stands above what is not judged or not decided, and that above
-- what is right
abbrev pub severity_of : VerdictKind → ℕ
severity_of verdict.NotRead = 9
severity_of verdict.SourceFault = 8
severity_of verdict.Trap = 7
severity_of verdict.Deadlock = 6
severity_of verdict.Wrong = 5
severity_of verdict.Spins = 4
severity_of verdict.RanOutOfSteps = 3
severity_of verdict.NotJudged = 2
severity_of verdict.NotDecided = 1
severity_of verdict.Right = 0
