use Rattle.std.proofs.Common.{◌≡◌, ℕ, ◌<◌, None}
use Rattle.run_findings.specs.TornReads.{glimpse_at}
use Rattle.run_findings.proofs.torn.is_any_glimpse.Given as goal

-- none of the steps so far sees one
abbrev pub invariant-loop-step : goal.invariant-loop-step
invariant-loop-step l = (j : ℕ) → j < l.step → glimpse_at l.actions j ≡ None
