-- the sum of the numbers so far
use Rattle.std.proofs.Common.{◌≡◌, take}
use Rattle.std.specs.List.{fold}
use Rattle.world_keys.specs.Buckets.{mixed}
use Rattle.world_keys.proofs.buckets.bucket_of.Given as goal

abbrev pub invariant-loop-number : goal.invariant-loop-number
invariant-loop-number l = l.sum ≡ fold mixed 0 (take l.number-index l.list)
