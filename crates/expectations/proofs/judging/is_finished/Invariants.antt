use Rattle.std.proofs.Common.{◌≡◌, drop}
use Rattle.std.specs.List.{list_all}
use Rattle.expectations.specs.Meeting.{all_idle}
use Rattle.expectations.proofs.judging.is_finished.Given as goal

-- whether all processors are at rest is whether those to come are
abbrev pub invariant-loop-p : goal.invariant-loop-p
invariant-loop-p g l =
    list_all all_idle (drop l.p l.machine.world.processors) ≡ list_all all_idle l.machine.world.processors
