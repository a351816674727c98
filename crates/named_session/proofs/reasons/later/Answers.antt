use Rattle.std.proofs.Common.{sym, ◌∙◌}
use Rattle.named_session.proofs.LastOnes.{last_passes, last_fails}
use Rattle.named_session.proofs.reasons.later.Goals as goal

pub returns-then-passes : goal.returns-then-passes
returns-then-passes c = λ test same last. last_passes test c.args.number (sym same ∙ c.if-passes.true)

pub returns-else-passes : goal.returns-else-passes
returns-else-passes c = λ test same last.
    last_fails test c.args.number c.args.last (sym same ∙ c.if-passes.false) last
