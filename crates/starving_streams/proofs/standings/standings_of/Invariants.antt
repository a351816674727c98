-- those of the places so far
use Rattle.starving_streams.specs.Graphs.{AreStandings, AreDues}
use Rattle.starving_streams.proofs.standings.standings_of.Given as goal

abbrev pub invariant-loop-place : goal.invariant-loop-place
invariant-loop-place g l =
    AreStandings l.space l.place l.standings.all.items × AreDues l.space l.rests l.place l.standings.due.items
