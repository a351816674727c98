use Rattle.std.proofs.Common.{◌≡◌, ℕ, ◌<◌, Option, length, get_or}
use Rattle.std.specs.List.{slice_get}
use Rattle.std.specs.Option.{IfSome}
use Rattle.run_findings.specs.Places.{last_before}
use Rattle.run_findings.specs.Links.{latest_of}
use Rattle.run_findings.specs.Own.{IsInRange, own_at, has_number}
use Rattle.run_findings.proofs.own.own_links.Given as goal

-- the links of the steps so far, and the last of these of each stream
abbrev pub invariant-loop-step : goal.invariant-loop-step
invariant-loop-step l = record {
  count : length l.links.items ≡ l.step;
  is : (n : ℕ) (other : Option ℕ) → n < l.step → get_or l.links.items n other ≡ own_at l.actions n;
  ranges : (k : ℕ) → k < l.step → IfSome (slice_get l.actions k) (λ d. IsInRange d.stream);
  latest : (a : ℕ) → latest_of l.latest a ≡ last_before (has_number a) l.actions l.step;
}
