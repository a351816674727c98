use Rattle.std.proofs.Common.{◌≡◌, ◌≤◌}
use Rattle.run_findings.specs.Places.{last_before}
use Rattle.run_findings.specs.Sought.{is_sought}
use Rattle.run_findings.specs.TornReads.{is_later}
use Rattle.run_findings.proofs.searching.is_any_after.Given as goal

-- the last step before `place` comes after `first` where the last one before the end does
abbrev pub invariant-loop-place : goal.invariant-loop-place
invariant-loop-place l = record {
  same : is_later l.first (last_before (is_sought l.sought l.address) l.actions l.place)
      ≡ is_later l.first (last_before (is_sought l.sought l.address) l.actions l.end);
  within : l.place ≤ l.end;
}

abbrev pub decreases-loop-place : goal.decreases-loop-place
decreases-loop-place l = l.place
