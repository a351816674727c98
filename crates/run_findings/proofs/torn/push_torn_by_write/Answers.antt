use Rattle.std.proofs.Common.{◌++◌, sym, ap, ◌∙◌, append-nil}
use Rattle.run_findings.proofs.torn.push_torn_by_write.Goals as goal

pub returns-then-not-may_tear : goal.returns-then-not-may_tear
returns-then-not-may_tear c =
    let before = c.args.found.now.items in
    sym (append-nil before)
    ∙ ap (λ x. before ++ x) (sym (c.may_tear.ensures c.if-not-may_tear.true c.args.glimpse.now c.requires.looks))
