use Rattle.std.proofs.Common.{◌≡◌, ◌∙◌, sym, length, arith, ap}
use Rattle.run_findings.specs.Needs.{are_shared}
use Rattle.run_findings.proofs.Needed.{register_more}
use Rattle.run_findings.proofs.marks.Marks.with_register.Goals as goal

pub returns-then-mark_at : goal.returns-then-mark_at
returns-then-mark_at c m part =
    let own : length c.args.self.registers ≡ 32 = omega arith in
    ap (λ rs. are_shared m (record c.args.self { registers = rs })) c.with_need.ensures
    ∙ register_more m c.args.self c.args.register (part.sized.registers ∙ sym own)
