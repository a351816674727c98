use Rattle.std.proofs.Common.{sym, ap, ◌∙◌, ◌+◌, ◌<◌, subst, get_or, length, map, List}
use Rattle.space_ends.specs.Judging.{is_end_kind}
use Rattle.space_ends.specs.Loops.{AreAllEnds}
use Rattle.space_ends.specs.EndsOfSpace.{listed_of, IsOfEndLine, AreEndsBefore}
use Rattle.space_ends.specs.Shown.{ShownEnd, AreShownSo}
use Rattle.space_ends.specs.declared.end_values.SpaceEnd.{SpaceEnd}
use Rattle.space_ends.proofs.Keeping.{all_ends_push, all_ends_set}
use Rattle.space_ends.proofs.Listing.{judged_at, placed_in, pushed_in}
use Rattle.space_ends.proofs.Shown.{shown_push, shown_first, shown_line}
use Rattle.space_ends.proofs.place_ends.add_place.Goals as goal

pub returns-in-Some : goal.returns-in-Some
returns-in-Some g c =
    let v = c.args.space.now in
    let expected = c.args.expected.now in
    let items = c.args.ends.now.items in
    let m = c.in_ok-machine.machine in
    let j = c.in_ok-judged.judged.judgement in
    let s = c.in_ok-judged.judged.state in
    let is = c.in_ok-judged.ensures in
    let x = c.index_mut.result.now in
    let y = c.push_place.new.end in
    let index = c.in-Some.index in
    let below = subst (λ (xs : List SpaceEnd). index < length xs) c.deref.ensures.value c.in-Some.ensures.0 in
    let there =
    subst (λ (xs : List SpaceEnd). IsOfEndLine (get_or xs index x) j s) c.deref.ensures.value (c.in-Some.ensures.1 x) in
    let so = subst (λ (e : SpaceEnd). IsOfEndLine e j s) (sym c.index_mut.ensures.value) there in
    record {
      ends = λ within ends are.
          placed_in v expected c.args.place items index x y j are below c.index_mut.ensures.value so.judged
          (judged_at v expected c.args.place m j c.in_ok-machine.ensures ends is.kind is.missed is.trapped)
          c.in_ok-push_place-in-Some.ensures.listed;
      shown = λ within all.
          shown_line v expected c.args.place m j.kind s items index x y c.in_ok-machine.ensures is.kind is.state all
          below c.index_mut.ensures.value so.judged.kind so.state c.in_ok-push_place-in-Some.ensures.shown;
      kinds = λ all.
          all_ends_set items index y
          (ap (λ (e : ShownEnd). is_end_kind e.kind) c.in_ok-push_place-in-Some.ensures.shown
          ∙ ap is_end_kind so.judged.kind)
          all;
    }

pub returns : goal.returns
returns g c =
    let v = c.args.space.now in
    let expected = c.args.expected.now in
    let items = c.args.ends.now.items in
    let m = c.in_ok-machine.machine in
    let j = c.in_ok-judged.judged.judgement in
    let s = c.in_ok-judged.judged.state in
    let is = c.in_ok-judged.ensures in
    let x = c.in_ok-first_of_line-in-None.field-0 in
    let new = c.in_ok-first_of_line-in-None.ensures in
    record {
      ends = λ within ends are.
          subst (λ (xs : List SpaceEnd). AreEndsBefore v expected (c.args.place + 1) (map listed_of xs))
          (sym c.in_ok-push-in-None.ensures.items)
          (pushed_in v expected c.args.place items x j are
          (judged_at v expected c.args.place m j c.in_ok-machine.ensures ends is.kind is.missed is.trapped)
          (new.listed within));
      shown = λ within all.
          subst (AreShownSo v expected) (sym c.in_ok-push-in-None.ensures.items)
          (shown_push v expected items x
          (shown_first v expected c.args.place m j.kind s x c.in_ok-machine.ensures is.kind is.state new.kind new.state
          new.places) all);
      kinds = λ all.
          subst AreAllEnds (sym c.in_ok-push-in-None.ensures.items)
          (all_ends_push items x (ap is_end_kind new.kind) all);
    }
