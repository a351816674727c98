use Rattle.std.proofs.Common.{◌≡◌, ◌≢◌, ◌<◌, ℕ, true}
use Rattle.local_steps.specs.SettledEndings.{is_settled, stream_in}
use Rattle.local_steps.proofs.deciding.others_are_settled.Given as goal

abbrev pub invariant-loop-other : goal.invariant-loop-other
invariant-loop-other g l = (k : ℕ) → k < l.other → k ≢ l.step.s
    → is_settled l.places (stream_in l.machine.world l.step.p k) ≡ true
