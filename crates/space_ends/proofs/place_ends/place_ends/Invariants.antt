-- The ends so far are those of the places that were looked at, show what is so, and are all ends.
use Rattle.std.proofs.Common.{map}
use Rattle.space_ends.specs.EndsOfSpace.{listed_of, AreEndsBefore}
use Rattle.space_ends.specs.Shown.{AreShownSo}
use Rattle.space_ends.specs.Loops.{AreAllEnds}
use Rattle.space_ends.proofs.place_ends.place_ends.Given as goal

abbrev pub invariant-loop-place : goal.invariant-loop-place
invariant-loop-place g l =
    record {
      ends : AreEndsBefore l.space l.expected l.place (map listed_of l.ends.items);
      shown : AreShownSo l.space l.expected l.ends.items;
      kinds : AreAllEnds l.ends.items;
    }
