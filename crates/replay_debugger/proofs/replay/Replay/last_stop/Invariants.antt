use Rattle.std.proofs.Common.{◌≡◌, ◌≤◌, ◌-◌, List, Option}
use Rattle.tag_memory.specs.Storage.{TaggedMemory}
use Rattle.replay_debugger.specs.declared.points.Point.{Point}
use Rattle.replay_debugger.specs.Places.{IsOn}
use Rattle.replay_debugger.specs.Stops.{is_stop}
use Rattle.replay_debugger.specs.StopFinders.{IsFinderOf, IsLastInRun}
use Rattle.replay_debugger.proofs.replay.Replay.last_stop.Given as goal

abbrev pub decreases-loop-self : goal.decreases-loop-self
decreases-loop-self g l = l.initial.limit - l.self.position

-- whatever points are looked for are looked for still, and the last stop so far is known
abbrev pub invariant-loop-self : goal.invariant-loop-self
invariant-loop-self g l = record {
  from : l.fn.self.position ≤ l.self.position;
  within : l.self.position ≤ l.limit;
  kept : l.checkpoints ≡ l.fn.checkpoints;
  on : IsOn l.checkpoints l.self;
  looks : (points : List (Option Point)) (seen : TaggedMemory) → IsFinderOf points seen l.fn.stops
      → IsFinderOf points l.self.machine.world.memory l.stops;
  last : (points : List (Option Point)) (seen : TaggedMemory) → IsFinderOf points seen l.fn.stops
      → IsLastInRun (is_stop l.fn.checkpoints.image l.fn.checkpoints.schedule points) l.fn.self.position
      l.self.position l.last;
}
