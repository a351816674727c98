use Rattle.std.proofs.Common.{◌≡◌, ◌∙◌, sym, length, arith, ap}
use Rattle.run_findings.specs.Needs.{are_shared, with_targets}
use Rattle.run_findings.proofs.Needed.{parts_needed}
use Rattle.run_findings.proofs.marks.Marks.needed_before_parts.Goals as goal

pub returns : goal.returns
returns c n part =
    let own : length c.args.self.registers ≡ 32 = omega arith in
    parts_needed n c.args.self c.needed_before_targets.result c.needed_for_control.result c.needed_for_arithmetic.result
    c.args.m.now c.args.a.now c.args.c.now c.is_control_needed-got.result c.is_arithmetic_needed-made.result
    (part.sized.registers ∙ sym own) c.is_control_needed-got.ensures c.is_arithmetic_needed-made.ensures
    (ap (are_shared (with_targets n c.args.c.now)) (sym c.without_written.ensures) ∙ c.needed_before_targets.ensures n part)
    (c.needed_for_control.ensures n part) (c.needed_for_arithmetic.ensures n part)
