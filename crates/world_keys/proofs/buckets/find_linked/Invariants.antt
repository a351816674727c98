-- no list from the link's on is the one
use Rattle.std.proofs.Common.{length}
use Rattle.world_keys.proofs.Linking.{IsSought}
use Rattle.world_keys.proofs.buckets.find_linked.Given as goal

abbrev pub invariant-loop-link : goal.invariant-loop-link
invariant-loop-link l = IsSought l.lists (length l.heads) l.list l.link

abbrev pub decreases-loop-link : goal.decreases-loop-link
decreases-loop-link l = l.link
