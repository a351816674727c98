-- What is missed so far is the first expectation that the worlds at the places so far miss.
use Rattle.std.proofs.Common.{take}
use Rattle.space_ends.specs.Shown.{IsFirstMissedBy}
use Rattle.space_ends.proofs.going.WorldSet.over.Given as goal

abbrev pub invariant-loop-place : goal.invariant-loop-place
invariant-loop-place g l = IsFirstMissedBy l.space l.expected (take l.place-index l.places) l.known.missed
