-- those of the streams so far
use Rattle.std.proofs.Common.{◌≡◌, ◌++◌, map, filter, take}
use Rattle.starving_streams.specs.Graphs.{standing_of, may_not_rest}
use Rattle.starving_streams.proofs.standings.push_standings.Given as goal

abbrev pub invariant-loop-number : goal.invariant-loop-number
invariant-loop-number g l =
    (l.standings.all.items ≡ l.initial.standings.all.items
    ++ map (standing_of l.machine.image l.machine.world l.place) (take l.number l.running.items))
    × (l.standings.due.items ≡ l.initial.standings.due.items
    ++ map (standing_of l.machine.image l.machine.world l.place)
    (filter (may_not_rest l.rests l.machine.world) (take l.number l.running.items)))
