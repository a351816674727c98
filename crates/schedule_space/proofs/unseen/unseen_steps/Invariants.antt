use Rattle.processor.specs.declared.steps.Step.{Step}
use Rattle.std.specs.List.{Contains}
use Rattle.schedule_space.specs.Quiet.{IsUnseen}
use Rattle.schedule_space.proofs.unseen.unseen_steps.Given as goal

abbrev pub invariant-loop-step : goal.invariant-loop-step
invariant-loop-step g l = record {
  some : (t : Step) → Contains l.unseen.items t → Contains l.steps t;
  unseen : (t : Step) → Contains l.unseen.items t
      → IsUnseen l.observation.places.now l.observation.words.now l.machine.image l.machine.world t;
}
