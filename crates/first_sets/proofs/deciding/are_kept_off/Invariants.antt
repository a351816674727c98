use Rattle.std.specs.List.{Contains}
use Rattle.processor.specs.declared.steps.Step.{Step}
use Rattle.first_sets.specs.ApartSets.{KeepsOff}
use Rattle.first_sets.proofs.Members.{AreLookedAt}
use Rattle.first_sets.proofs.deciding.are_kept_off.Given as goal

abbrev pub invariant-loop-step : goal.invariant-loop-step
invariant-loop-step g l =
    AreLookedAt (λ (u : Step). ¬ (Contains l.set u) → KeepsOff l.tables l.machine.world u l.is_quiet l.request) l.running
    l.step-index
