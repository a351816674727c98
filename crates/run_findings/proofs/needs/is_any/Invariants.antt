use Rattle.std.proofs.Common.{◌≡◌, drop}
use Rattle.run_findings.specs.Needs.{is_any}
use Rattle.run_findings.proofs.needs.is_any.Given as goal

-- what the marks to come tell is what all do
abbrev pub invariant-loop-mark : goal.invariant-loop-mark
invariant-loop-mark l = is_any (drop l.mark-index l.marks) ≡ is_any l.marks
