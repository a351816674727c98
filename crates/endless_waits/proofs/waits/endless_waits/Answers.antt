use Rattle.std.proofs.Common.{sym}
use Rattle.endless_waits.specs.declared.waits.EndlessWaits.TheVariants as waits
use Rattle.endless_waits.proofs.Telling.{has_all_states, nobody_waits, shows_none}
use Rattle.endless_waits.proofs.waits.endless_waits.Goals as goal

pub returns-clause-tells : goal.returns-clause-tells
returns-clause-tells c = λ has.
    c.in_ok-starving_in.ensures
    (has_all_states c.args.extent c.len.result c.args.space.now (sym c.in_default.ensures) has)

pub returns-clause-nobody : goal.returns-clause-nobody
returns-clause-nobody c = λ has is.
    let v = c.args.space.now in
    nobody_waits v.image v.begin c.args.rests.now (waits.Answered c.in_ok-starving_in.field-0)
    (c.in_ok-starving_in.ensures (has_all_states c.args.extent c.len.result v (sym c.in_default.ensures) has)) is

pub returns-clause-only : goal.returns-clause-only
returns-clause-only c = λ has nobody.
    let v = c.args.space.now in
    shows_none v.image v.begin c.args.rests.now (waits.Answered c.in_ok-starving_in.field-0)
    (c.in_ok-starving_in.ensures (has_all_states c.args.extent c.len.result v (sym c.in_default.ensures) has)) nobody
