-- The rules of the streams so far, and behind them those of the streams that are left.
use Rattle.std.proofs.Common.{◌≡◌, ◌++◌, drop, map}
use Rattle.processor.specs.declared.steps.Step.{Step}
use Rattle.work_rules.specs.declared.work_rule.WorkRule.TheVariants as rule
use Rattle.expectation_files.proofs.work_lines.writes_of.Given as goal

abbrev pub invariant-loop-stream : goal.invariant-loop-stream
invariant-loop-stream l =
    l.rules.items ++ map (λ (t : Step). rule.Writes t l.address) (drop l.stream-index l.streams)
    ≡ map (λ (t : Step). rule.Writes t l.address) l.streams
