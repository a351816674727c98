use Rattle.run_findings.specs.Sources.{AreAll}
use Rattle.run_findings.proofs.sources.marks_of_all.Given as goal

-- those of the steps so far
abbrev pub invariant-loop-step : goal.invariant-loop-step
invariant-loop-step l = AreAll l.actions l.step l.any.items
