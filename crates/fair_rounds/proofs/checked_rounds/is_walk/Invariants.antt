-- what is left decides
use Rattle.std.proofs.Common.{◌≡◌, drop}
use Rattle.fair_rounds.specs.Checks.{walks}
use Rattle.fair_rounds.proofs.checked_rounds.is_walk.Given as goal

abbrev pub invariant-loop-number : goal.invariant-loop-number
invariant-loop-number l = walks l.set l.from l.round l.to ≡ walks l.set l.here (drop l.number l.round) l.to
