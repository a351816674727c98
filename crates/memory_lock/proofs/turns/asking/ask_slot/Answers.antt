use Rattle.std.proofs.Common.{refl}
use Rattle.memory_lock.proofs.turns.asking.ask_slot.Goals as goal

pub returns : goal.returns
returns c =
    record {
      asked = (
        c.in-Some.memory,
        c.ask_memory.new.memory,
        c.in-Some.is,
        refl,
        c.ask_memory.ensures.ok,
        c.ask_memory.ensures.err,
      );
    }
