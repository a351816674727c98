use Rattle.std.proofs.Common.{◌<◌, sym, subst, arith}
use Rattle.run_findings.specs.Actions.{writes}
use Rattle.run_findings.proofs.Chains.{other-news, other-within}
use Rattle.run_findings.proofs.parting.last_news.Goals as goal

pub returns-in-Some-clause-within : goal.returns-in-Some-clause-within
returns-in-Some-clause-within c =
    let is = c.other_step.ensures in
    let low = other-within c.args.actions.now c.args.stream (writes c.in-Some.word) c.args.place c.last_write.result
    c.last_write.ensures.is in
    omega (arith, is, low)

pub returns-in-Some-clause-news : goal.returns-in-Some-clause-news
returns-in-Some-clause-news c k low =
    other-news c.args.actions.now c.args.stream c.args.place c.in-Some.word k _ c.last_write.result c.requires.place_in
    (sym c.in-Some.ensures) c.last_write.ensures.is (subst (λ n. k < n) c.other_step.ensures low)
