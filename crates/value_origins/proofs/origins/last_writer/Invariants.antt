use Rattle.std.proofs.Common.{◌≡◌, ℕ, ◌<◌, ◌≤◌, false}
use Rattle.value_origins.specs.Locations.{writes_at}
use Rattle.value_origins.proofs.origins.last_writer.Given as goal

-- none from here on writes it
abbrev pub invariant-loop-step : goal.invariant-loop-step
invariant-loop-step l = record {
  within : l.step ≤ l.before;
  none : (j : ℕ) → l.step ≤ j → j < l.before → writes_at l.actions l.location j ≡ false;
}

abbrev pub decreases-loop-step : goal.decreases-loop-step
decreases-loop-step l = l.step
