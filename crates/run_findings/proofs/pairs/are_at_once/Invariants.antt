use Rattle.std.proofs.Common.{◌≡◌, drop}
use Rattle.run_findings.specs.Pairs.{are_at_once}
use Rattle.run_findings.proofs.pairs.are_at_once.Given as goal

-- the values so far, over the steps to come, tell what is sought
abbrev pub invariant-loop-action : goal.invariant-loop-action
invariant-loop-action l =
    are_at_once l.one l.other l.seen.one l.seen.other l.held.one l.held.other (drop l.action-index l.actions)
    ≡ are_at_once l.fn.one l.fn.other l.fn.seen.one l.fn.seen.other l.fn.first.one l.fn.first.other l.fn.actions
