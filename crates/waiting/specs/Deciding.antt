-- What private functions compute.
use Rattle.std.specs.Prelude.{ℕ, ◌==◌, ◌||◌, ◌&&◌, nat_le, Bool, false, Option, Some, None}
use Rattle.tag_memory.specs.Access.{access_control}
use Rattle.tag_memory.specs.declared.pointers.AccessControl.{AccessControl}
use Rattle.tag_memory.specs.declared.pointers.AccessControl.TheVariants.{Normal, Future, Sync}
use Rattle.tag_memory.specs.declared.requests.MemOp.{MemOp}
use Rattle.tag_memory.specs.declared.requests.MemOp.TheVariants.{Load, Store, Fadd, TagGet, TagSet, Purge}
use Rattle.tag_memory.specs.declared.requests.Request.{Request}
use Rattle.tag_memory.specs.declared.requests.Reply.{Reply}
use Rattle.tag_memory.specs.declared.requests.Reply.TheVariants as reply
use Rattle.stream_core.specs.Streams.{StreamValue}
use Rattle.waiting.specs.declared.waits.Wait.{Wait}
use Rattle.waiting.specs.declared.waits.Wanted.{Wanted}
use Rattle.waiting.specs.declared.waits.Wanted.TheVariants.{Full, Empty}

-- whether a block leaves the stream as it is, where the retry limit is so ("Retries", docs/MACHINE.md): no block is
-- counted, or the count has come to the limit and the mask disables BLOCKED
abbrev pub retries_for_ever : ℕ → StreamValue → Bool
retries_for_ever limit s = (limit == 0) || (nat_le limit s.retries && s.ssw.mask.blocked)

-- whether a reply leaves the stream as it is
abbrev pub is_kept_by : ℕ → StreamValue → Reply → Bool
is_kept_by limit s (reply.Done n) = false
is_kept_by limit s (reply.Blocked a) = retries_for_ever limit s
is_kept_by limit s (reply.Trap k a) = false

-- the state that the full/empty table wants of a word that blocks a STORE
abbrev pub wanted_by_store : AccessControl → Wanted
wanted_by_store Normal = Full
wanted_by_store Future = Full
wanted_by_store Sync = Empty

-- the same by operation; of those that are never blocked nothing is meant by it
abbrev pub wanted_of : MemOp → AccessControl → Wanted
wanted_of Load control = Full
wanted_of Store control = wanted_by_store control
wanted_of Fadd control = Full
wanted_of TagGet control = Full
wanted_of TagSet control = Full
wanted_of Purge control = Full

-- the state that a request wants of a word that blocks it
abbrev pub wanted_by : Request → Wanted
wanted_by q = wanted_of q.op (access_control q.acc q.pointer)

-- what a stream waits for whose request gets this reply
abbrev pub wait_replied : Request → Reply → Option Wait
wait_replied q (reply.Done n) = None
wait_replied q (reply.Blocked a) = Some (record { address = a; wanted = wanted_by q })
wait_replied q (reply.Trap k a) = None
