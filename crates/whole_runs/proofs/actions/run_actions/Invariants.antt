-- The actions so far and those of the steps to come are all, and the steps to come take the machine to its end.
use Rattle.std.proofs.Common.{◌≡◌, ◌++◌, drop}
use Rattle.machine.proofs.Worlds.{ran}
use Rattle.whole_runs.specs.RunActions.{actions_of}
use Rattle.whole_runs.proofs.actions.run_actions.Given as goal

abbrev pub invariant-loop-step : goal.invariant-loop-step
invariant-loop-step g l = record {
  actions : l.actions.items ++ actions_of l.machine.image l.machine.world (drop l.step-index l.schedule)
      ≡ actions_of l.initial.machine.image l.initial.machine.world l.schedule;
  world : ran l.machine (drop l.step-index l.schedule) ≡ ran l.initial.machine l.schedule;
}
