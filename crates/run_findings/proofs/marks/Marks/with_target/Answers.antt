use Rattle.std.proofs.Common.{◌≡◌, ◌∙◌, sym, length, arith, ap}
use Rattle.run_findings.specs.Needs.{are_shared}
use Rattle.run_findings.proofs.Needed.{target_more}
use Rattle.run_findings.proofs.marks.Marks.with_target.Goals as goal

pub returns : goal.returns
returns c m sized =
    let own : length c.args.self.targets ≡ 8 = omega arith in
    ap (λ ts. are_shared m (record c.args.self { targets = ts })) c.with_target_mark.ensures
    ∙ target_more m c.args.self c.args.target (sized.targets ∙ sym own)
