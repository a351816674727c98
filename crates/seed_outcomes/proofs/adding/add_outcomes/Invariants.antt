-- The outcomes so far are added.
use Rattle.seed_outcomes.specs.Adding.{AreAdded}
use Rattle.seed_outcomes.proofs.adding.add_outcomes.Given as goal

abbrev pub invariant-loop-outcome : goal.invariant-loop-outcome
invariant-loop-outcome l = AreAdded l.initial.outcomes.items l.yielded l.outcomes.items
