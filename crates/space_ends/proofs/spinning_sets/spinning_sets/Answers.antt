use Rattle.std.proofs.Common.{sym, ◌∙◌, subst, ℕ, ◌<◌, length, Vec, Global}
use Rattle.std.specs.List.{All}
use Rattle.std.proofs.lemmas.List.Elements.{All-push}
use Rattle.space_ends.proofs.Spins.{some_unmarked, none_unmarked}
use Rattle.space_ends.proofs.spinning_sets.spinning_sets.Goals as goal

pub returns-then-can_all_end-clause-some : goal.returns-then-can_all_end-clause-some
returns-then-can_all_end-clause-some c = λ some.
    absurd (none_unmarked c.args.can_end.now (sym c.can_all_end.ensures ∙ c.if-can_all_end.true) some)

pub returns-then-not-is_empty-clause-only : goal.returns-then-not-is_empty-clause-only
returns-then-not-is_empty-clause-only c = λ more.
    some_unmarked c.args.can_end.now (sym c.can_all_end.ensures ∙ c.if-can_all_end.false)

pub returns-clause-only : goal.returns-clause-only
returns-clause-only c = λ more.
    some_unmarked c.args.can_end.now (sym c.can_all_end.ensures ∙ c.if-can_all_end.false)

pub returns-clause-filled : goal.returns-clause-filled
returns-clause-filled c =
    let filled = λ (set : Vec ℕ Global). 0 < length set.items in
    let some = some_unmarked c.args.can_end.now (sym c.can_all_end.ensures ∙ c.if-can_all_end.false) in
    subst (All filled) (sym c.in_ok-push.ensures.items)
    (All-push filled c.in_ok-sets.sets.items c.in_ok-places_without_end.field-0 c.in_ok-sets.ensures.filled
    (c.in_ok-places_without_end.ensures.some some))
