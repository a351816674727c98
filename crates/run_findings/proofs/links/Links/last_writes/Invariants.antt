use Rattle.std.proofs.Common.{◌≡◌, ℕ, ◌<◌, Option, length, get_or}
use Rattle.run_findings.specs.Links.{last_write_at}
use Rattle.run_findings.proofs.links.Links.last_writes.Given as goal

-- those of the steps so far
abbrev pub invariant-loop-step : goal.invariant-loop-step
invariant-loop-step l = record {
  count : length l.lasts.items ≡ l.step;
  is : (n : ℕ) (other : Option ℕ) → n < l.step → get_or l.lasts.items n other ≡ last_write_at l.actions n;
}
