use Rattle.run_findings.proofs.SourceSteps.{WalkTo}
use Rattle.run_findings.proofs.lost.last_source.Given as goal

abbrev pub invariant-loop-own : goal.invariant-loop-own
invariant-loop-own l = WalkTo l.actions l.stored l.action l.word l.end l.step l.needed

abbrev pub decreases-loop-own : goal.decreases-loop-own
decreases-loop-own l = l.step
