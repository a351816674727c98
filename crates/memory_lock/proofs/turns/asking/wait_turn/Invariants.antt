use Rattle.std.proofs.Common.{◌≡◌}
use Rattle.memory_lock.specs.Seats.{IsSameSeat}
use Rattle.memory_lock.proofs.turns.asking.wait_turn.Given as goal

abbrev pub invariant-loop : goal.invariant-loop
invariant-loop g l = IsSameSeat l.initial.seat l.seat × (l.seat.me ≡ l.initial.seat.me)
