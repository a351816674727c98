use Rattle.std.proofs.Common.{◌≡◌, length}
use Rattle.memory_lock.specs.Driving.{IsGrown, HasMade}
use Rattle.memory_lock.proofs.driving.drive.Given as goal

abbrev pub invariant-loop : goal.invariant-loop
invariant-loop g l =
    IsGrown l.fuel l.initial.worker l.worker
    × HasMade l.initial.worker l.worker (g.P.Port.made l.initial.port) (g.P.Port.made l.port)
    × (g.P.Port.is_refused l.port ≡ g.P.Port.is_refused l.initial.port)
    × (length l.worker.steps ≡ l.counter)
