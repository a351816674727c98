-- The steps that are left lead where the whole schedule leads from the start.
use Rattle.std.proofs.Common.{◌≡◌, drop}
use Rattle.machine.proofs.Worlds.{ran}
use Rattle.machine.proofs.machines.Machine.run.Given as goal

abbrev pub invariant-loop-step : goal.invariant-loop-step
invariant-loop-step g l = ran l.self (drop l.step-index l.schedule) ≡ ran l.fn.self l.schedule
