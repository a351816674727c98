-- those so far are marked in both
use Rattle.std.proofs.Common.{ℕ, ◌<◌}
use Rattle.fair_rounds.specs.Rounds.{IsIn}
use Rattle.fair_rounds.proofs.reached.first_apart.Given as goal

abbrev pub invariant-loop-number : goal.invariant-loop-number
invariant-loop-number l = (k : ℕ) → k < l.number → IsIn l.marks k → IsIn l.others k
