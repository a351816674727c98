use Rattle.std.proofs.Common.{◌≡◌, ◌≤◌, ◌-◌, List, Option}
use Rattle.replay_debugger.specs.declared.points.Point.{Point}
use Rattle.replay_debugger.specs.Places.{IsOn}
use Rattle.replay_debugger.specs.Stops.{is_stop, NoneAbove}
use Rattle.replay_debugger.specs.StopFinders.{IsFinderOf}
use Rattle.replay_debugger.proofs.replay.Replay.run_to_stop.Given as goal

abbrev pub decreases-loop-self : goal.decreases-loop-self
decreases-loop-self g l = l.initial.limit - l.self.position

-- whatever points are looked for are looked for still, and none has stopped above the first position
abbrev pub invariant-loop-self : goal.invariant-loop-self
invariant-loop-self g l = record {
  from : l.initial.self.position ≤ l.self.position;
  within : l.self.position ≤ l.limit;
  kept : l.checkpoints ≡ l.initial.checkpoints;
  on : IsOn l.checkpoints l.self;
  looks : (points : List (Option Point))
      → IsFinderOf points l.initial.self.machine.world.memory l.initial.stops
      → IsFinderOf points l.self.machine.world.memory l.stops;
  none : (points : List (Option Point))
      → IsFinderOf points l.initial.self.machine.world.memory l.initial.stops
      → NoneAbove (is_stop l.checkpoints.image l.checkpoints.schedule points) l.initial.self.position
      l.self.position;
}
