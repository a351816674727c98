-- Requests that add to a word whatever stands there, and requests that commute but for the numbers that they get.
use Rattle.std.specs.Prelude.{◌≡◌, ◌⊎◌, ℕ, Bool, true, false}
use Rattle.tag_memory.specs.Storage.{TaggedMemory}
use Rattle.tag_memory.specs.Access.{access_control}
use Rattle.tag_memory.specs.Answer.{answer}
use Rattle.tag_memory.specs.declared.pointers.AccessControl.{AccessControl}
use Rattle.tag_memory.specs.declared.pointers.AccessControl.TheVariants.{Normal, Future, Sync}
use Rattle.tag_memory.specs.declared.requests.MemOp.{MemOp}
use Rattle.tag_memory.specs.declared.requests.MemOp.TheVariants.{Load, Store, Fadd, TagGet, TagSet, Purge}
use Rattle.tag_memory.specs.declared.requests.Request.{Request}
use Rattle.tag_memory.specs.declared.requests.Reply.{Reply}
use Rattle.tag_memory.specs.declared.requests.Reply.TheVariants as reply

-- whether a control is the normal one
abbrev pub is_normal : AccessControl → Bool
is_normal Normal = true
is_normal Future = false
is_normal Sync = false

-- whether an operation of this control is a fetch-and-add that waits for nothing
abbrev pub adds_by : MemOp → AccessControl → Bool
adds_by Load k = false
adds_by Store k = false
adds_by Fadd k = is_normal k
adds_by TagGet k = false
adds_by TagSet k = false
adds_by Purge k = false

-- whether a request is one
abbrev pub is_add : Request → Bool
is_add q = adds_by q.op (access_control q.acc q.pointer)

-- The two replies are the same, or both are numbers.
abbrev pub AreAlike : Reply → Reply → Type 0
AreAlike x y = (x ≡ y) ⊎ ((n : ℕ) × ((k : ℕ) × ((x ≡ reply.Done n) × (y ≡ reply.Done k))))

-- The two leave one memory in both orders. After the other one each gets the reply that it gets before it, or both are
-- numbers.
pub record DoCommuteButForNumbers (m : TaggedMemory) (q r : Request) : Type 0 where
  pub memory : (answer (answer m q).0 r).0 ≡ (answer (answer m r).0 q).0
  pub first : AreAlike (answer (answer m r).0 q).1 (answer m q).1
  pub second : AreAlike (answer (answer m q).0 r).1 (answer m r).1
