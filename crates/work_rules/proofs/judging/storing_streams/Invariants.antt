use Rattle.std.proofs.Common.{◌≡◌, ◌+◌, ◌≤◌, length}
use Rattle.work_rules.specs.Work.{storing_streams}
use Rattle.work_rules.proofs.judging.storing_streams.Given as goal

-- what was counted, with what the later steps count, is what all steps count; a step counts for one at most
abbrev pub invariant-loop-rest : goal.invariant-loop-rest
invariant-loop-rest l = record {
  counted : l.count + storing_streams l.first l.last l.rest ≡ storing_streams l.first l.last l.actions;
  within : l.count + length l.rest ≤ length l.actions;
}

abbrev pub decreases-loop-rest : goal.decreases-loop-rest
decreases-loop-rest l = length l.rest
