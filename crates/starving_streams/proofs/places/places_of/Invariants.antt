-- the standings so far are marked
use Rattle.std.proofs.Common.{take}
use Rattle.starving_streams.specs.Graphs.{AreMarksBy}
use Rattle.starving_streams.proofs.places.places_of.Given as goal

abbrev pub invariant-loop-standing : goal.invariant-loop-standing
invariant-loop-standing l = AreMarksBy (take l.standing-index l.standings) l.count l.who l.marks.items
