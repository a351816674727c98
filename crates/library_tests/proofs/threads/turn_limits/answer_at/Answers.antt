use Rattle.std.proofs.Common.{arith, ap}
use Rattle.atomic_table.specs.Table.{Me}
use Rattle.memory_lock.specs.Seats.{Slot}
use Rattle.memory_lock.specs.declared.turns.views.View.{View}
use Rattle.library_tests.proofs.FirstSeat.{first-splits}
use Rattle.library_tests.proofs.threads.turn_limits.answer_at.Goals as goal

pub split_seat-other-requires : goal.split_seat-other-requires
split_seat-other-requires g c =
    let at = c.requires.seat in (
      at.0.0,
      omega (arith, at.0.1),
      first-splits _ _ _ (ap (λ (m : Me Slot View). m.0) at.1),
    )
