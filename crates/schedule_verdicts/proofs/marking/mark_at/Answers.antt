use Rattle.std.proofs.Common.{List, sym, subst, rules}
use Rattle.schedule_verdicts.specs.ClaimMarks.{MarksValue, AreJudgedBy}
use Rattle.schedule_verdicts.proofs.marking.mark_at.Goals as goal

pub judge-requires : goal.judge-requires
judge-requires g c =
    let all =
    subst (λ (ms : List MarksValue). AreJudgedBy c.args.place c.args.machine.now.world ms)
    (sym c.loop-number.invariant) c.requires in
    (search rules, all c.loop-number.number c.index-marks-number.result (search rules))
