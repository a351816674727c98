use Rattle.std.proofs.Common.{◌≡◌, ◌≤◌, ◌-◌}
use Rattle.replay_debugger.specs.Places.{IsOn}
use Rattle.replay_debugger.proofs.replay.Replay.run_to.Given as goal

abbrev pub decreases-loop-self : goal.decreases-loop-self
decreases-loop-self g l = l.initial.goal - l.self.position

abbrev pub invariant-loop-self : goal.invariant-loop-self
invariant-loop-self g l = record {
  within : l.self.position ≤ l.goal;
  kept : l.checkpoints ≡ l.initial.checkpoints;
  on : IsOn l.checkpoints l.self;
}
