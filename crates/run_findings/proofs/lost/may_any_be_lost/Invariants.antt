use Rattle.std.proofs.Common.{◌≡◌, ℕ, ◌<◌, None}
use Rattle.run_findings.specs.LostUpdates.{lost_at}
use Rattle.run_findings.proofs.lost.may_any_be_lost.Given as goal

-- none of the steps so far is one
abbrev pub invariant-loop-step : goal.invariant-loop-step
invariant-loop-step l = (n : ℕ) → n < l.step → lost_at l.actions n ≡ None
