use Rattle.std.proofs.Common.{sym}
use Rattle.judgements.proofs.Judged.{kept}
use Rattle.judgements.proofs.by_case.broken_rule.Goals as goal

pub returns-in-None-clause-kept : goal.returns-in-None-clause-kept
returns-in-None-clause-kept c =
    let none = rw c.rules.ensures at c.in-None.ensures in
    kept c.args.judged.image.now c.args.judged.required.now.rules.items (sym none)
