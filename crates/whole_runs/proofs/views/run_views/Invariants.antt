-- Views of the steps to come, behind those that are there, are the views of all steps, and the steps to come take the
-- machine to its end.
use Rattle.std.proofs.Common.{◌≡◌, drop}
use Rattle.machine.proofs.Worlds.{ran}
use Rattle.whole_runs.proofs.ViewLists.{Leads}
use Rattle.whole_runs.proofs.views.run_views.Given as goal

abbrev pub invariant-loop-step : goal.invariant-loop-step
invariant-loop-step g l = record {
  views : Leads l.machine (drop l.step-index l.schedule) l.views.items l.initial.machine l.schedule;
  world : ran l.machine (drop l.step-index l.schedule) ≡ ran l.initial.machine l.schedule;
}
