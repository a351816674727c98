-- It counts those of the groups so far.
use Rattle.std.proofs.Common.{◌≡◌, take}
use Rattle.claims.specs.Holding.{count_in_groups}
use Rattle.claims.proofs.judging.count_in_groups.Given as goal

abbrev pub invariant-loop-group : goal.invariant-loop-group
invariant-loop-group g l = l.count ≡ count_in_groups l.machine.world (take l.group-index l.groups)
