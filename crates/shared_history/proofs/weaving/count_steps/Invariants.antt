use Rattle.std.proofs.Common.{◌≡◌, ◌-◌, ◌^◌, min, take}
use Rattle.shared_history.specs.Schedule.{count_steps}
use Rattle.shared_history.proofs.weaving.count_steps.Given as goal

abbrev pub invariant-loop-record : goal.invariant-loop-record
invariant-loop-record g l = l.count ≡ min (count_steps (take l.record-index l.records)) (2 ^ 64 - 1)
