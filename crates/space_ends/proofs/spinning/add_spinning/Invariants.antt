-- What was added so far: some end that spins if there was a set, and none of its places is marked.
use Rattle.std.proofs.Common.{◌≡◌, ◌<◌, length}
use Rattle.space_ends.specs.EndsOfSpace.{ends_in}
use Rattle.space_ends.specs.Spinning.{spinning_in, AreUnmarked}
use Rattle.space_ends.specs.Loops.{AreAllEnds}
use Rattle.space_ends.specs.Shown.{AreShownSo}
use Rattle.space_ends.proofs.spinning.add_spinning.Given as goal

abbrev pub invariant-loop-places : goal.invariant-loop-places
invariant-loop-places g l =
    record {
      ends : ends_in l.ends.items ≡ ends_in l.initial.ends.items;
      some : 0 < l.places-index → 0 < length (spinning_in l.ends.items);
      only : l.places-index ≡ 0 → spinning_in l.ends.items ≡ spinning_in l.initial.ends.items;
      each : AreUnmarked l.can_end.items (spinning_in l.initial.ends.items)
          → AreUnmarked l.can_end.items (spinning_in l.ends.items);
      shown : AreShownSo l.space l.expected l.initial.ends.items → AreShownSo l.space l.expected l.ends.items;
      kinds : AreAllEnds l.initial.ends.items → AreAllEnds l.ends.items;
    }
