use Rattle.std.proofs.Common.{refl, ap, sym, subst, ◌∙◌, [], ◌∷◌}
use Rattle.space_ends.specs.EndsOfSpace.{are_ends, ends_in}
use Rattle.space_ends.specs.Spinning.{are_spinning, spinning_in}
use Rattle.space_ends.specs.Shown.{AreShownSo}
use Rattle.space_ends.specs.Loops.{LoopingEnd, is_busy_kind, busy_in}
use Rattle.space_ends.proofs.Keeping.{ends_push, spinning_push, busy_first, none_busy, at_some, at_none}
use Rattle.space_ends.proofs.Shown.{shown_push_none}
use Rattle.space_ends.proofs.every_end.add_busy.Goals as goal

pub returns-in_ok-push-in-Some : goal.returns-in_ok-push-in-Some
returns-in_ok-push-in-Some c =
    let end = c.in_ok-busy_end-in-Some.field-0 in
    let kind = c.in_ok-busy_end-in-Some.ensures.kind in
    let items = c.in_ok-push-in-Some.ensures.items in
    record {
      ends = ap ends_in items ∙ ends_push c.args.ends.now.items end (ap are_ends kind);
      spinning = ap spinning_in items ∙ spinning_push c.args.ends.now.items end (ap are_spinning kind);
      shown = λ v expected all.
          subst (AreShownSo v expected) (sym items)
          (shown_push_none v expected c.args.ends.now.items end (ap are_spinning kind) (ap are_ends kind) all);
      busy = λ all.
          at_some _ _ c.args.busy c.in-Some.busy c.in-Some.is (λ within.
          ap busy_in items ∙ busy_first c.args.ends.now.items end all (ap is_busy_kind kind)
          ∙ ap (λ (e : LoopingEnd). e ∷ []) (c.in_ok-busy_end-in-Some.ensures.is within));
    }

pub returns-in-None : goal.returns-in-None
returns-in-None c = record {
  ends = refl;
  spinning = refl;
  shown = λ v expected all. all;
  busy = λ all. at_none _ _ c.args.busy c.in-None.is (none_busy c.args.ends.now.items all);
}
