use Rattle.std.proofs.Common.{◌≡◌, length, sym, ap, ◌∙◌, arith}
use Rattle.run_findings.specs.Found.{found_to}
use Rattle.run_findings.specs.LostUpdates.{lost_at}
use Rattle.run_findings.proofs.LostUpdates.{lost-exact, lost-ordered}
use Rattle.run_findings.proofs.Parted.{found_begin}
use Rattle.run_findings.proofs.lost.lost_by_links.Goals as goal

pub returns-then-not-may_any_be_lost-clause-exact : goal.returns-then-not-may_any_be_lost-clause-exact
returns-then-not-may_any_be_lost-clause-exact c =
    let ds = c.args.actions.now in
    lost-exact ds c.new-found.result.items
    (c.new-found.ensures.items
    ∙ sym (found_begin (lost_at ds) (length ds) (c.may_any_be_lost.ensures c.if-not-may_any_be_lost.true)))

pub returns-then-not-may_any_be_lost-clause-order : goal.returns-then-not-may_any_be_lost-clause-order
returns-then-not-may_any_be_lost-clause-order c =
    let ds = c.args.actions.now in
    lost-ordered ds c.new-found.result.items
    (c.new-found.ensures.items
    ∙ sym (found_begin (lost_at ds) (length ds) (c.may_any_be_lost.ensures c.if-not-may_any_be_lost.true)))

pub returns-clause-exact : goal.returns-clause-exact
returns-clause-exact c =
    let all : c.loop-stored.stored ≡ length c.args.actions.now = omega arith in
    lost-exact c.args.actions.now c.loop-stored.found.items
    (c.loop-stored.invariant ∙ ap (found_to (lost_at c.args.actions.now)) all)

pub returns-clause-order : goal.returns-clause-order
returns-clause-order c =
    let all : c.loop-stored.stored ≡ length c.args.actions.now = omega arith in
    lost-ordered c.args.actions.now c.loop-stored.found.items
    (c.loop-stored.invariant ∙ ap (found_to (lost_at c.args.actions.now)) all)
