use Rattle.std.proofs.Common.{sym}
use Rattle.endless_waits.specs.declared.kept.KeptConditions.TheVariants as kept
use Rattle.endless_waits.proofs.Telling.{has_all_states}
use Rattle.endless_waits.proofs.AllAreKept.{all_kept_by}
use Rattle.endless_waits.proofs.kept.kept_conditions.Goals as goal

pub returns-clause-tells : goal.returns-clause-tells
returns-clause-tells c = λ has.
    c.in_ok-answers_in.ensures
    (has_all_states c.args.extent c.len.result c.args.space.now (sym c.in_default.ensures) has)

pub returns-clause-all : goal.returns-clause-all
returns-clause-all c = λ has all.
    let v = c.args.space.now in
    all_kept_by v.image v.begin c.args.rests.now c.args.asked.now (kept.Answered c.in_ok-answers_in.field-0)
    (c.in_ok-answers_in.ensures (has_all_states c.args.extent c.len.result v (sym c.in_default.ensures) has)) all
