use Rattle.std.proofs.Common.{ap, sym, subst, ◌∙◌}
use Rattle.space_ends.specs.BrokenClaims.{EndValue}
use Rattle.space_ends.specs.EndsOfSpace.{are_ends, ends_in}
use Rattle.space_ends.specs.Spinning.{are_spinning, spinning_in}
use Rattle.space_ends.specs.Loops.{is_busy_kind, busy_in}
use Rattle.space_ends.specs.Shown.{AreShownSo}
use Rattle.space_ends.proofs.Keeping.{ends_push, spinning_push, busy_push}
use Rattle.space_ends.proofs.Shown.{shown_push_none}
use Rattle.space_ends.proofs.broken_claims.add_if_broken.Goals as goal

pub returns-clause-ends : goal.returns-clause-ends
returns-clause-ends g c =
    ap ends_in c.in_ok-push.ensures.items
    ∙ ends_push c.args.ends.now.items c.in_ok-end_that_is_broken.field-0
    (ap (λ (x : EndValue). are_ends x.kind) c.in_ok-end_that_is_broken.ensures)

pub returns-clause-spinning : goal.returns-clause-spinning
returns-clause-spinning g c =
    ap spinning_in c.in_ok-push.ensures.items
    ∙ spinning_push c.args.ends.now.items c.in_ok-end_that_is_broken.field-0
    (ap (λ (x : EndValue). are_spinning x.kind) c.in_ok-end_that_is_broken.ensures)

pub returns-clause-busy : goal.returns-clause-busy
returns-clause-busy g c =
    ap busy_in c.in_ok-push.ensures.items
    ∙ busy_push c.args.ends.now.items c.in_ok-end_that_is_broken.field-0
    (ap (λ (x : EndValue). is_busy_kind x.kind) c.in_ok-end_that_is_broken.ensures)

pub returns-clause-shown : goal.returns-clause-shown
returns-clause-shown g c = λ v expected all.
    subst (AreShownSo v expected) (sym c.in_ok-push.ensures.items)
    (shown_push_none v expected c.args.ends.now.items c.in_ok-end_that_is_broken.field-0
    (ap (λ (x : EndValue). are_spinning x.kind) c.in_ok-end_that_is_broken.ensures)
    (ap (λ (x : EndValue). are_ends x.kind) c.in_ok-end_that_is_broken.ensures) all)
