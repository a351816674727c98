-- The numbers of the streams so far, and that what they hold is in the table.
use Rattle.std.proofs.Common.{◌≡◌, ◌∷◌, get_or, take}
use Rattle.dead_registers.specs.Clearing.{cleared}
use Rattle.world_keys.specs.Tables.{Extends}
use Rattle.world_keys.specs.WorldKeys.{stream_marks, no_processor}
use Rattle.world_keys.proofs.Marks.{AreKnownBelow}
use Rattle.world_keys.proofs.keys.processor_numbers.Given as goal

abbrev pub invariant-loop-s : goal.invariant-loop-s
invariant-loop-s g l =
    let proc = get_or (cleared l.live l.machine.world).processors l.p no_processor in
    record {
      grown : Extends l.fn.contents l.contents;
      known : AreKnownBelow l.contents proc.streams l.s;
      numbers : l.numbers.items ≡ proc.sres ∷ stream_marks l.contents 0 (take l.s proc.streams);
    }
