use Rattle.std.proofs.Common.{◌≡◌, drop}
use Rattle.run_findings.specs.Needs.{any_both}
use Rattle.run_findings.proofs.needs.any_both.Given as goal

-- what the places to come tell is what all do
abbrev pub invariant-loop-place : goal.invariant-loop-place
invariant-loop-place l = any_both (drop l.place l.one) (drop l.place l.other) ≡ any_both l.one l.other
