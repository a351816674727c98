use Rattle.std.proofs.Common.{◌≡◌, ℕ, ◌<◌, None}
use Rattle.run_findings.specs.UnreadStores.{unread_at}
use Rattle.run_findings.proofs.unread.is_any_over_unread.Given as goal

-- none of the steps so far is one
abbrev pub invariant-loop-step : goal.invariant-loop-step
invariant-loop-step l = (n : ℕ) → n < l.step → unread_at l.actions n ≡ None
