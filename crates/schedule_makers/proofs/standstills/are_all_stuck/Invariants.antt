-- The streams so far are stuck.
use Rattle.std.specs.List.{AllWithin}
use Rattle.waiting.specs.Stuck.{IsStuck}
use Rattle.schedule_makers.proofs.standstills.are_all_stuck.Given as goal

abbrev pub invariant-loop-step : goal.invariant-loop-step
invariant-loop-step g l = AllWithin (IsStuck l.machine.image l.machine.world) l.steps 0 l.step-index
