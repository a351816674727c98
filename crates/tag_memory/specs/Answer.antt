-- What the memory answers, and what it is afterwards.
use Rattle.std.specs.Prelude.{◌≡◌, ◌≢◌, ◌↔◌, ℕ, List, Option, Some, None}
use Rattle.tag_memory.specs.Cell.{Cell}
use Rattle.tag_memory.specs.Address.{address_of}
use Rattle.tag_memory.specs.Storage.{TaggedMemory, cell_at, with_cell}
use Rattle.tag_memory.specs.Access.{access_control, effect}
use Rattle.tag_memory.specs.Chain.{Leads, end_of}
use Rattle.tag_memory.specs.declared.requests.Request.{Request}
use Rattle.tag_memory.specs.declared.requests.Reply.{Reply}
use Rattle.tag_memory.specs.declared.requests.Reply.TheVariants.{Done, Blocked, Trap}
use Rattle.tag_memory.specs.declared.chain.End.{End}
use Rattle.tag_memory.specs.declared.chain.End.TheVariants as at

-- the memory and the reply, where the word at the address has this effect
abbrev pub answer_by_effect : TaggedMemory → ℕ → Option (Cell × ℕ) → TaggedMemory × Reply
answer_by_effect m a None = (m, Blocked a)
answer_by_effect m a (Some (c, n)) = (with_cell m a c, Done n)

-- the memory and the reply, for a request that ends so; the control is that of the request's own pointer
abbrev pub at_end : TaggedMemory → Request → End → TaggedMemory × Reply
at_end m q (at.Trap kind a) = (m, Trap kind a)
at_end m q (at.Last p c) = answer_by_effect m (address_of p) (effect q.op (access_control q.acc q.pointer) c q.value)

-- where a reference ends
abbrev pub address_at : End → ℕ
address_at (at.Trap kind a) = a
address_at (at.Last p c) = address_of p

-- The memory after the request, and the reply.
abbrev pub answer : TaggedMemory → Request → TaggedMemory × Reply
answer m q = at_end m q (end_of m q)

-- The memory may answer the request so, and be this afterwards.
pub record Answers (m : TaggedMemory) (q : Request) (after : TaggedMemory) (reply : Reply) : Type 0 where
  pub path : List ℕ
  pub end : End
  pub leads : Leads m q path end
  pub answered : (after, reply) ≡ at_end m q end

-- Whatever is asked of whatever memory, there is one answer, and it is the computed one.
abbrev pub AnswersAreComputed : Type 0
AnswersAreComputed =
    (m : TaggedMemory) (q : Request) (after : TaggedMemory) (reply : Reply)
    → Answers m q after reply ↔ ((after, reply) ≡ answer m q)

-- A request changes at most the word that it ends at.
abbrev pub OthersStay : Type 0
OthersStay =
    (m : TaggedMemory) (q : Request) (a : ℕ) → (address_at (end_of m q) ≢ a) → cell_at (answer m q).0 a ≡ cell_at m a

-- Memories with one chain limit and the same words at all addresses are one: a memory is a map from addresses to
-- words, and a chain limit.
abbrev pub IsDeterminedByWords : Type 0
IsDeterminedByWords =
    (m n : TaggedMemory) → m.chain_limit ≡ n.chain_limit → ((a : ℕ) → cell_at m a ≡ cell_at n a) → m ≡ n
