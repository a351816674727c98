use Rattle.std.proofs.Common.{◌≡◌, Bool, true, sym, ap, subst, ◌∙◌, ◌<◌, length, get_or, List}
use Rattle.space_ends.specs.EndsOfSpace.{are_ends, ends_in}
use Rattle.space_ends.specs.Spinning.{are_spinning, spinning_in, AreUnmarked}
use Rattle.space_ends.specs.Shown.{shown_of, IsFirstMissedBy, IsSpinningSet, AreShownSo}
use Rattle.space_ends.specs.Loops.{AreAllEnds}
use Rattle.space_ends.specs.declared.end_values.SpaceEnd.{SpaceEnd}
use Rattle.space_ends.specs.Judging.{is_end_kind}
use Rattle.space_ends.proofs.Keeping.{ends_push, all_ends_push, all_ends_set}
use Rattle.space_ends.proofs.Spins.{IsSpunAnew, ends_stay, spun_some, spun_each, push_some, push_each}
use Rattle.space_ends.proofs.Shown.{shown_set, shown_push, shown_place, shown_in, set_with, no_end, of_end_kind}
use Rattle.space_ends.proofs.spinning_lines.add_set.Goals as goal

pub returns-in_ok-extend_by-in-Some : goal.returns-in_ok-extend_by-in-Some
returns-in_ok-extend_by-in-Some c =
    let items = c.args.ends.now.items in
    let index = c.in-Some.index in
    let x = c.index_mut.result.now in
    let y = c.extend_by.new.end in
    let line = c.in-Some.ensures.1 x in
    let at = ap (λ (xs : List SpaceEnd). get_or xs index x) c.deref.ensures.value in
    let spins =
    ap (λ (e : SpaceEnd). e.kind) c.index_mut.ensures.value
    ∙ sym (ap (λ (e : SpaceEnd). e.kind) at)
    ∙ line.kind in
    let missed =
    ap (λ (e : SpaceEnd). e.missed) c.index_mut.ensures.value ∙ sym (ap (λ (e : SpaceEnd). e.missed) at) ∙ line.missed in
    let after : y.kind ≡ c.args.set.kind = c.in_ok-extend_by-in-Some.ensures.kind ∙ spins in
    let anew : are_spinning c.args.set.kind ≡ true → IsSpunAnew items index x y = λ kind. record {
      below = subst (λ (xs : List SpaceEnd). index < length xs) c.deref.ensures.value c.in-Some.ensures.0;
      here = c.index_mut.ensures.value;
      was = ap are_spinning spins ∙ kind;
      is = ap are_spinning after ∙ kind;
      was_none = ap are_ends spins ∙ no_end c.args.set.kind kind;
      is_none = ap are_ends after ∙ no_end c.args.set.kind kind;
    } in
    record {
      ends = λ kind. ends_stay items index x y (anew kind);
      some = λ kind. spun_some items index x y (anew kind);
      each = λ kind marks new old.
          spun_each items index x y marks c.args.set.places.items (anew kind) c.in_ok-extend_by-in-Some.ensures.places new old;
      shown = λ kind v expected is all.
          shown_place v expected items index y
          (shown_set v expected (shown_of y) (anew kind).is_none
          (subst (IsSpinningSet v expected) (sym c.in_ok-extend_by-in-Some.ensures.set)
          (set_with v expected (shown_of x) c.args.set.places.items
          ((shown_in v expected items index x all (anew kind).below (anew kind).here).set (anew kind).was)
          (λ must_end.
          subst (IsFirstMissedBy v expected c.args.set.places.items) (sym missed) (is.missed must_end)))))
          all;
      kinds = λ kind all.
          all_ends_set items index y (ap is_end_kind after ∙ of_end_kind c.args.set.kind kind) all;
    }

pub returns-in_ok-push-in-None : goal.returns-in_ok-push-in-None
returns-in_ok-push-in-None c =
    let items = c.args.ends.now.items in
    let pushed = c.in_ok-push-in-None.ensures.items in
    record {
      ends = λ kind. ap ends_in pushed ∙ ends_push items c.args.set (no_end c.args.set.kind kind);
      some = λ kind.
          subst (λ (xs : List SpaceEnd). 0 < length (spinning_in xs)) (sym pushed)
          (push_some items c.args.set kind);
      each = λ kind marks new old.
          subst (λ (xs : List SpaceEnd). AreUnmarked marks (spinning_in xs)) (sym pushed)
          (push_each items c.args.set marks kind new old);
      shown = λ kind v expected is all.
          subst (AreShownSo v expected) (sym pushed)
          (shown_push v expected items c.args.set
          (shown_set v expected (shown_of c.args.set) (no_end c.args.set.kind kind) is) all);
      kinds = λ kind all.
          subst AreAllEnds (sym pushed) (all_ends_push items c.args.set (of_end_kind c.args.set.kind kind) all);
    }
