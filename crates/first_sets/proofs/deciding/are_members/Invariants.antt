use Rattle.processor.specs.declared.steps.Step.{Step}
use Rattle.first_sets.specs.ApartSets.{IsMember}
use Rattle.first_sets.proofs.Members.{AreLookedAt}
use Rattle.first_sets.proofs.deciding.are_members.Given as goal

abbrev pub invariant-loop-step : goal.invariant-loop-step
invariant-loop-step g l =
    AreLookedAt (λ (t : Step). IsMember l.machine.image l.tables l.machine.world l.set t) l.set l.step-index
