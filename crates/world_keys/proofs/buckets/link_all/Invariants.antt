-- the lists so far are linked
use Rattle.std.proofs.Common.{length}
use Rattle.world_keys.specs.Buckets.{AreLinked}
use Rattle.world_keys.proofs.buckets.link_all.Given as goal

abbrev pub invariant-loop-place : goal.invariant-loop-place
invariant-loop-place l = AreLinked l.lists (length l.initial.heads) l.heads l.earlier l.place
