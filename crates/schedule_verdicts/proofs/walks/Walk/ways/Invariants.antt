-- Those so far lead on from the place.
use Rattle.schedule_verdicts.specs.Walking.{AreWays}
use Rattle.schedule_verdicts.proofs.walks.Walk.ways.Given as goal

abbrev pub invariant-loop-number : goal.invariant-loop-number
invariant-loop-number g l = AreWays l.self.space l.self.place l.ways.items
