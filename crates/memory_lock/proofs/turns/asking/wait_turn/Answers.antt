use Rattle.std.proofs.Common.{◌∙◌, sym, subst, arith}
use Rattle.memory_lock.specs.declared.turns.views.Stage.TheVariants.{Waits}
use Rattle.memory_lock.specs.Seats.{IsAt}
use Rattle.memory_lock.proofs.Keeping.{M, looks}
use Rattle.memory_lock.proofs.turns.asking.wait_turn.Goals as goal

pub load-served-requires : goal.load-served-requires
load-served-requires g c =
    let since = c.loop.invariant in
    let P : M → Type 0 = λ m. IsAt m.0 (Waits c.args.ticket) in (
      since.0.0 ∙ c.requires.table.0,
      omega (arith, c.requires.table.1),
      looks _ _ _ _ c.args.ticket (subst P (sym since.1) c.requires.waits.0),
    )
