use Rattle.std.proofs.Common.{◌≡◌, ℕ, true, ◌<◌, ◌≤◌}
use Rattle.run_findings.specs.TornReads.{are_parted}
use Rattle.run_findings.proofs.rounds.Round.start.Given as goal

-- what comes before `start` is parted from the place
abbrev pub invariant-loop-start : goal.invariant-loop-start
invariant-loop-start l = record {
  within : l.start ≤ l.place;
  step_within : l.step ≤ l.place;
  parted : (a k : ℕ) → k < l.start → are_parted l.actions l.self.way l.self.stream a l.self.word k l.place ≡ true;
}

abbrev pub decreases-loop-start : goal.decreases-loop-start
decreases-loop-start l = l.step
