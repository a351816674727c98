use Rattle.std.proofs.Common.{◌≡◌, drop}
use Rattle.run_findings.specs.Marks.{marks_through, marks_before}
use Rattle.run_findings.proofs.marks.Marks.before.Given as goal

-- the marks so far, through the steps to come, are those that are sought
abbrev pub invariant-loop-action : goal.invariant-loop-action
invariant-loop-action l =
    marks_through l.stream l.marks (drop l.action-index l.action-items)
    ≡ marks_before l.fn.actions l.stream l.fn.read l.fn.end
