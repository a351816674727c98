use Rattle.std.proofs.Common.{◌≡◌, ◌∙◌, sym, length, arith, ap, ◌||◌}
use Rattle.run_findings.specs.Marks.{mark_at, target_marks}
use Rattle.run_findings.specs.Needs.{any_both, are_shared}
use Rattle.run_findings.proofs.Needed.{target_off, target_set, target_unset}
use Rattle.run_findings.proofs.marks.Marks.needed_before_targets.Goals as goal

pub returns-in-Call : goal.returns-in-Call
returns-in-Call c m part =
    let n = c.args.self in
    let p = c.args.c.now in
    ap (λ op. any_both m.registers n.registers || any_both (target_marks m p op) n.targets) c.in-Call.is
    ∙ target_off m n p.u ∙ ap (are_shared m) (sym c.without_target.ensures)

pub returns-in-Exchange : goal.returns-in-Exchange
returns-in-Exchange c m part =
    let n = c.args.self in
    let p = c.args.c.now in
    ap (λ op. any_both m.registers n.registers || any_both (target_marks m p op) n.targets) c.in-Exchange.is
    ∙ target_off m n p.t ∙ ap (are_shared m) (sym c.without_target-in-Exchange.ensures)

pub returns-then-mark_at : goal.returns-then-mark_at
returns-then-mark_at c m part =
    let n = c.args.self in
    let p = c.args.c.now in
    let mark = mark_at m.registers p.ra in
    let own : length n.targets ≡ 8 = omega arith in
    ap (λ op. any_both m.registers n.registers || any_both (target_marks m p op) n.targets) c.in-TargetSet.is
    ∙ target_set m n p.t mark (part.sized.targets ∙ sym own) (sym c.mark_at.ensures ∙ c.if-mark_at.true)
    ∙ ap (λ rest. mark || are_shared m rest) (sym c.without_target-rest.ensures)
    ∙ sym (c.with_register.ensures m part)

pub returns-else-mark_at : goal.returns-else-mark_at
returns-else-mark_at c m part =
    let n = c.args.self in
    let p = c.args.c.now in
    let mark = mark_at m.registers p.ra in
    let own : length n.targets ≡ 8 = omega arith in
    ap (λ op. any_both m.registers n.registers || any_both (target_marks m p op) n.targets) c.in-TargetSet.is
    ∙ target_unset m n p.t mark (part.sized.targets ∙ sym own) (sym c.mark_at.ensures ∙ c.if-mark_at.false)
    ∙ ap (are_shared m) (sym c.without_target-rest.ensures)
