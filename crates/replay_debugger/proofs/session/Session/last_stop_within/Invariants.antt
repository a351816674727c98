use Rattle.std.proofs.Common.{◌≡◌, ◌≤◌}
use Rattle.tag_memory.specs.Storage.{TaggedMemory}
use Rattle.replay_debugger.specs.Stops.{is_stop, NoneAbove}
use Rattle.replay_debugger.specs.StopFinders.{IsFinderOf}
use Rattle.replay_debugger.proofs.session.Session.last_stop_within.Given as goal

abbrev pub decreases-loop-stops : goal.decreases-loop-stops
decreases-loop-stops g l = l.high

-- the points are looked for still, and none has stopped above `high`
abbrev pub invariant-loop-stops : goal.invariant-loop-stops
invariant-loop-stops g l =
    let s = l.initial.self-inside in
    record {
      under : l.high ≤ l.top;
      same : l.self-inside ≡ s;
      looks : (m : TaggedMemory) × IsFinderOf s.points m l.stops;
      none : NoneAbove (is_stop s.checkpoints.image s.checkpoints.schedule s.points) l.high l.top;
    }
