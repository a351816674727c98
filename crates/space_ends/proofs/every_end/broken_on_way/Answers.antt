use Rattle.std.proofs.Common.{sym, subst, refl}
use Rattle.std.specs.Prelude.{IfOk, Some, None}
use Rattle.space_ends.specs.FirstBroken.{IsBrokenAs}
use Rattle.space_ends.specs.declared.end_values.SpaceEndKind.{SpaceEndKind}
use Rattle.space_ends.proofs.every_end.broken_on_way.Goals as goal

pub returns-in-End : goal.returns-in-End
returns-in-End g c =
    let e = c.args.end.now in
    subst
    (λ (k : SpaceEndKind). IfOk c.broken_by.result (λ broken. IsBrokenAs c.args.space.now.image c.args.claims.now k
    e.schedule.items broken))
    (sym c.in-End.is) (rw (c.image.ensures, c.deref.ensures.value) at c.broken_by.ensures)

pub returns-in-Broken : goal.returns-in-Broken
returns-in-Broken g c =
    let e = c.args.end.now in
    subst
    (λ (k : SpaceEndKind). IsBrokenAs c.args.space.now.image c.args.claims.now k e.schedule.items (Some c.in-Broken.claim))
    (sym c.in-Broken.is) refl

pub returns-in-Busy : goal.returns-in-Busy
returns-in-Busy g c =
    let e = c.args.end.now in
    subst
    (λ (k : SpaceEndKind). IsBrokenAs c.args.space.now.image c.args.claims.now k e.schedule.items None)
    (sym c.in-Busy.is) refl
