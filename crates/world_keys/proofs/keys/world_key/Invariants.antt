-- The places so far, and that what the processors so far hold is in the table.
use Rattle.std.proofs.Common.{◌≡◌, ◌∷◌, map, take}
use Rattle.dead_registers.specs.Clearing.{cleared}
use Rattle.world_keys.specs.Tables.{place_in, Has, Extends}
use Rattle.world_keys.specs.MemoryNumbers.{memory_numbers}
use Rattle.world_keys.specs.WorldKeys.{processor_place}
use Rattle.world_keys.proofs.Worlds.{AreKnownBelow}
use Rattle.world_keys.proofs.keys.world_key.Given as goal

abbrev pub invariant-loop-p : goal.invariant-loop-p
invariant-loop-p g l =
    let w = cleared l.live l.machine.world in
    let ns = memory_numbers l.machine.image w.memory in
    record {
      grown : Extends l.fn.contents l.contents;
      has : Has l.contents ns;
      known : AreKnownBelow l.contents l.machine.image w.processors l.p;
      key : l.key.items
          ≡ place_in l.contents ns ∷ map (processor_place l.contents) (take l.p w.processors);
    }
