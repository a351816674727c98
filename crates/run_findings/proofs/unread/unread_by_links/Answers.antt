use Rattle.std.proofs.Common.{◌≡◌, length, sym, ap, ◌∙◌, arith}
use Rattle.run_findings.specs.Found.{found_to}
use Rattle.run_findings.specs.UnreadStores.{unread_at}
use Rattle.run_findings.proofs.UnreadStores.{unread-exact, unread-ordered}
use Rattle.run_findings.proofs.Parted.{found_begin}
use Rattle.run_findings.proofs.unread.unread_by_links.Goals as goal

pub returns-then-not-is_any_over_unread-clause-exact : goal.returns-then-not-is_any_over_unread-clause-exact
returns-then-not-is_any_over_unread-clause-exact c =
    let ds = c.args.actions.now in
    unread-exact ds c.new-found.result.items
    (c.new-found.ensures.items
    ∙ sym (found_begin (unread_at ds) (length ds) (c.is_any_over_unread.ensures c.if-not-is_any_over_unread.true)))

pub returns-then-not-is_any_over_unread-clause-order : goal.returns-then-not-is_any_over_unread-clause-order
returns-then-not-is_any_over_unread-clause-order c =
    let ds = c.args.actions.now in
    unread-ordered ds c.new-found.result.items
    (c.new-found.ensures.items
    ∙ sym (found_begin (unread_at ds) (length ds) (c.is_any_over_unread.ensures c.if-not-is_any_over_unread.true)))

pub returns-clause-exact : goal.returns-clause-exact
returns-clause-exact c =
    let all : c.loop-stored.stored ≡ length c.args.actions.now = omega arith in
    unread-exact c.args.actions.now c.loop-stored.found.items
    (c.loop-stored.invariant ∙ ap (found_to (unread_at c.args.actions.now)) all)

pub returns-clause-order : goal.returns-clause-order
returns-clause-order c =
    let all : c.loop-stored.stored ≡ length c.args.actions.now = omega arith in
    unread-ordered c.args.actions.now c.loop-stored.found.items
    (c.loop-stored.invariant ∙ ap (found_to (unread_at c.args.actions.now)) all)
