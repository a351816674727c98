-- The outcomes of the parts so far are added.
use Rattle.seed_outcomes.specs.Adding.{AreAdded}
use Rattle.seed_outcomes.specs.Parts.{all_outcomes}
use Rattle.seed_outcomes.proofs.surveys.add_parts.Given as goal

abbrev pub invariant-loop-part : goal.invariant-loop-part
invariant-loop-part l = AreAdded l.initial.outcomes.items (all_outcomes l.yielded) l.outcomes.items
