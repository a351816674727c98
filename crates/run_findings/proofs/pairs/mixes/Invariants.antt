use Rattle.std.proofs.Common.{◌≡◌, drop}
use Rattle.run_findings.specs.Pairs.{mixes}
use Rattle.run_findings.proofs.pairs.mixes.Given as goal

-- the marks so far, over the steps to come, tell what is sought
abbrev pub invariant-loop-action : goal.invariant-loop-action
invariant-loop-action l =
    mixes l.stream l.of_one l.of_other (drop l.action-index l.actions) ≡ mixes l.fn.stream l.fn.one l.fn.other l.fn.actions
