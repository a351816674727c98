-- How verdicts are named.
use Rattle.std.specs.Prelude.{ℕ, List, codes}
use Rattle.judgements.specs.declared.verdict_kinds.VerdictKind.{VerdictKind}
use Rattle.judgements.specs.declared.verdict_kinds.VerdictKind.TheVariants as verdict

abbrev pub word_of : VerdictKind → List ℕ
word_of verdict.NotRead = codes "not read"
word_of verdict.SourceFault = codes "source fault"
word_of verdict.Trap = codes "trap"
word_of verdict.Deadlock = codes "deadlock"
word_of verdict.Wrong = codes "wrong"
word_of verdict.RanOutOfSteps = codes "ran out of steps"
word_of verdict.Spins = codes "spins"
word_of verdict.NotJudged = codes "not judged"
word_of verdict.NotDecided = codes "not decided"
word_of verdict.Right = codes "right"
