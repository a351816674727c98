use Rattle.std.proofs.Common.{sym, ◌∙◌, drop}
use Rattle.run_findings.proofs.Unmarked.{one_unmarked, other_unmarked}
use Rattle.run_findings.proofs.pairs.mixes.Goals.{then-are_any, else-are_any}
use Rattle.run_findings.proofs.pairs.mixes.Goals as goal

pub returns-then-not-are_any : goal.returns-then-not-are_any
returns-then-not-are_any c =
    let t = c.args.stream in
    let one = c.loop-action.of_one in
    let other = c.loop-action.of_other in
    let rest = drop c.loop-action.action-index c.args.actions.now in
    elim c.if-are_any.branch [
      | then-are_any w ↦ sym (other_unmarked t one other rest
          (sym w.are_any-then-are_any.ensures ∙ sym w.value-is ∙ c.if-not-are_any.true)) ∙ c.loop-action.invariant
      | else-are_any w ↦ sym (one_unmarked t one other rest (sym c.are_any.ensures ∙ w.if-are_any.false))
          ∙ c.loop-action.invariant
    ]
