use Rattle.std.proofs.Common.{◌≡◌, drop}
use Rattle.run_findings.specs.Pairs.{value_before}
use Rattle.run_findings.proofs.pairs.value_before.Given as goal

-- no step so far met the word
abbrev pub invariant-loop-action : goal.invariant-loop-action
invariant-loop-action l = value_before l.word (drop l.action-index l.actions) ≡ value_before l.fn.word l.fn.actions
