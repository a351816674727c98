-- Requests that commute in a memory; a step may make none.
use Rattle.std.specs.Prelude.{◌≡◌, Option}
use Rattle.tag_memory.specs.Storage.{TaggedMemory}
use Rattle.tag_memory.specs.declared.requests.Request.{Request}
use Rattle.processor.specs.Row.{memory_reply}

-- The two leave one memory in both orders, and each gets the same reply after the other one as before it.
pub record DoCommute (m : TaggedMemory) (q r : Option Request) : Type 0 where
  pub memory : (memory_reply (memory_reply m q).0 r).0 ≡ (memory_reply (memory_reply m r).0 q).0
  pub first : (memory_reply (memory_reply m r).0 q).1 ≡ (memory_reply m q).1
  pub second : (memory_reply (memory_reply m q).0 r).1 ≡ (memory_reply m r).1
