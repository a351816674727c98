use Rattle.std.proofs.Common.{◌<◌, length, sym, ◌∙◌, arith, lit<}
use Rattle.std.proofs.lemmas.Bool.{eqb-true, eqb-false}
use Rattle.schedule_makers.proofs.SoFar.{none_run, some_run}
use Rattle.schedule_makers.proofs.making.last_end.Goals as goal

pub returns-then-is_empty : goal.returns-then-is_empty
returns-then-is_empty g c =
    none_run c.args.machine.now.world c.args.running.now c.requires.running
    (eqb-true (length c.args.running.now) 0 (sym c.is_empty.ensures ∙ c.if-is_empty.true))

pub can_go_on-requires : goal.can_go_on-requires
can_go_on-requires g c =
    let full = eqb-false (length c.args.running.now) 0 (sym c.is_empty.ensures ∙ c.if-is_empty.false) in
    let some : 0 < length c.args.running.now = omega (arith, full) in (
      lit< tt,
      (
        c.requires.running,
        (some_run c.args.machine.now.world c.args.running.now c.requires.running some, c.requires.able),
      ),
    )

pub returns-then-can_go_on : goal.returns-then-can_go_on
returns-then-can_go_on g c =
    let full = eqb-false (length c.args.running.now) 0 (sym c.is_empty.ensures ∙ c.if-is_empty.false) in
    let some : 0 < length c.args.running.now = omega (arith, full) in (
      some_run c.args.machine.now.world c.args.running.now c.requires.running some,
      c.can_go_on.ensures.yes c.if-can_go_on.true,
    )
