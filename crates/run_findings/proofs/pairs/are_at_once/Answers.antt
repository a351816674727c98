use Rattle.std.proofs.Common.{sym, ◌∙◌, drop}
use Rattle.run_findings.proofs.Held.{at_once_now}
use Rattle.run_findings.proofs.pairs.are_at_once.Goals as goal

pub returns-then-is : goal.returns-then-is
returns-then-is c =
    let held = c.loop-action.held in
    let seen = c.args.seen in
    sym (at_once_now c.args.one c.args.other seen.one seen.other held.one held.other
    (drop c.loop-action.action-index c.args.actions.now) (sym c.is.ensures ∙ c.if-is.true))
    ∙ c.loop-action.invariant
