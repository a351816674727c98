-- The words so far, and those of the places that are left, are all.
use Rattle.std.proofs.Common.{◌≡◌, ◌++◌, drop}
use Rattle.changed_words.specs.Changed.{changed_from}
use Rattle.changed_words.proofs.changed.changed_words.Given as goal

abbrev pub invariant-loop-index : goal.invariant-loop-index
invariant-loop-index g l =
    l.changed.items ++ changed_from l.machine.world.memory l.index (drop l.index l.cells)
    ≡ changed_from l.machine.world.memory 0 l.cells
