-- A request that is refused, by a block or a trap, leaves the memory as it is.
use Rattle.std.proofs.Common.{◌≡◌, Bool, true, false, arith}
use Rattle.tag_memory.specs.Storage.{TaggedMemory}
use Rattle.tag_memory.specs.Answer.{answer}
use Rattle.tag_memory.specs.declared.requests.Request.{Request}
use Rattle.tag_memory.specs.declared.requests.Reply.{Reply}
use Rattle.tag_memory.specs.declared.requests.Reply.TheVariants.{Done, Blocked, Trap}

-- whether a reply refuses the request
abbrev pub is_refusal : Reply → Bool
is_refusal (Done n) = false
is_refusal (Blocked a) = true
is_refusal (Trap kind a) = true

pub refused_kept : (m : TaggedMemory) (q : Request) → is_refusal (answer m q).1 ≡ true → (answer m q).0 ≡ m
refused_kept m q e = grind arith
