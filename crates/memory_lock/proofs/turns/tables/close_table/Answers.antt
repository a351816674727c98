use Rattle.std.proofs.Common.{sym, subst, refl}
use Rattle.std.specs.Option.{IsSome}
use Rattle.memory_lock.specs.Seats.{Slot}
use Rattle.memory_lock.proofs.Ending.{ends, ends-image, ends-own, ends-other}
use Rattle.memory_lock.proofs.turns.tables.close_table.Goals as goal

pub unwrap-memory-requires : goal.unwrap-memory-requires
unwrap-memory-requires c =
    let j = c.requires.both in
    let e = ends _ c.args.seat.id c.args.seat.me.0 j.2.0 _ _ c.take.result c.close_with-closed.ensures.values.2 j.0
    j.2.1 j.1 c.take.ensures.value in
    let P : Slot → Type 0 = λ x. IsSome x in
    subst P (sym e.is) refl

pub returns-clause-own : goal.returns-clause-own
returns-clause-own c =
    let j = c.requires.both in
    let e = ends _ c.args.seat.id c.args.seat.me.0 j.2.0 _ _ c.take.result c.close_with-closed.ensures.values.2 j.0
    j.2.1 j.1 c.take.ensures.value in
    ends-own _ c.args.seat.me.0 j.2.0 c.take.result c.unwrap-memory.result e c.unwrap-memory.ensures

pub returns-clause-other : goal.returns-clause-other
returns-clause-other c g is =
    let j = c.requires.both in
    let e = ends _ c.args.seat.id c.args.seat.me.0 g _ _ c.take.result c.close_with-closed.ensures.values.2 j.0 is j.1
    c.take.ensures.value in
    ends-other _ c.args.seat.me.0 g c.take.result c.unwrap-memory.result e c.unwrap-memory.ensures

pub returns-clause-image : goal.returns-clause-image
returns-clause-image c =
    let j = c.requires.both in
    let e = ends _ c.args.seat.id c.args.seat.me.0 j.2.0 _ _ c.take.result c.close_with-closed.ensures.values.2 j.0
    j.2.1 j.1 c.take.ensures.value in
    ends-image _ c.args.seat.me.0 j.2.0 c.take.result c.unwrap-memory.result e c.unwrap-memory.ensures
