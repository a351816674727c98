use Rattle.std.proofs.Common.{◌≡◌, ◌∙◌, ◌++◌, ◌<◌, ◌≤◌, ℕ, [], ◌∷◌, List, length, map, take, drop, ap, sym, subst, arith, rules}
use Rattle.std.proofs.Common.{append-nil}
use Rattle.std.specs.Prelude.{MatchOption, filter}
use Rattle.std.specs.List.{All}
use Rattle.std.proofs.lemmas.List.{length-map, take_all, drop_all}
use Rattle.seed_verdicts.specs.ScheduleSpace.Spaces.{count}
use Rattle.space_ends.specs.FirstBroken.{AreBrokenSo}
use Rattle.space_ends.specs.Loops.{LoopingEnd, looping_of, is_busy_kind, busy_in, loop_of}
use Rattle.space_ends.specs.Shown.{ShownEnd, shown_of, IsShownSo}
use Rattle.space_ends.specs.declared.end_values.SpaceEnd.{SpaceEnd}
use Rattle.space_ends.proofs.every_end.space_ends.Goals as goal

-- ends that were written in the place of as many
written : (new items : List SpaceEnd) (room : ℕ) → map shown_of new ≡ map shown_of items → length items ≤ room
    → take room (new ++ drop (length new) items) ≡ new
written new items room kept within =
    let long : length new ≡ length items =
    sym (length-map new shown_of) ∙ ap (λ (es : List ShownEnd). length es) kept ∙ length-map items shown_of in
    ap (λ (es : List SpaceEnd). take room (new ++ es)) (drop_all (length new) items (omega (arith, long)))
    ∙ ap (λ (es : List SpaceEnd). take room es) (append-nil new) ∙ take_all room new (omega (arith, long, within))

pub returns-clause-shown : goal.returns-clause-shown
returns-clause-shown g c =
    let v = c.args.space.now in
    let expected = c.args.judged_by.expected.now in
    let items = c.add_broken.new.ends.items in
    let new = c.add_more.new.ends in
    let room : length items ≤ c.add_broken.new.ends.len = first_of (search rules, grind arith) in
    let kept : map shown_of new ≡ map shown_of items =
    c.in_ok-add_more.ensures.shown ∙ ap (λ (es : List SpaceEnd). map shown_of es) c.deref_mut.ensures.value in
    subst (λ (es : List ShownEnd). All (IsShownSo v expected) es)
    (sym (ap (λ (es : List SpaceEnd). map shown_of es) (written new items _ kept room) ∙ kept))
    (c.in_ok-add_broken.ensures.shown v expected (c.in_ok-add_busy.ensures.shown v expected c.in_ok-ends.ensures.shown))

pub returns-clause-first_broken : goal.returns-clause-first_broken
returns-clause-first_broken g c =
    let items = c.add_broken.new.ends.items in
    let new = c.add_more.new.ends in
    let room : length items ≤ c.add_broken.new.ends.len = first_of (search rules, grind arith) in
    let kept : map shown_of new ≡ map shown_of items =
    c.in_ok-add_more.ensures.shown ∙ ap (λ (es : List SpaceEnd). map shown_of es) c.deref_mut.ensures.value in
    subst (AreBrokenSo c.args.space.now c.args.judged_by.claims.now) (sym (written new items _ kept room))
    c.in_ok-add_more.ensures.first_broken

pub returns-clause-busy : goal.returns-clause-busy
returns-clause-busy g c =
    let v = c.args.space.now in
    let items = c.add_broken.new.ends.items in
    let new = c.add_more.new.ends in
    let room : length items ≤ c.add_broken.new.ends.len = first_of (search rules, grind arith) in
    let kept : map shown_of new ≡ map shown_of items =
    c.in_ok-add_more.ensures.shown ∙ ap (λ (es : List SpaceEnd). map shown_of es) c.deref_mut.ensures.value in
    let same =
    ap busy_in (written new items _ kept room)
    ∙ ap (filter (λ (e : LoopingEnd). is_busy_kind e.kind))
    (c.in_ok-add_more.ensures.looping ∙ ap (λ (es : List SpaceEnd). map looping_of es) c.deref_mut.ensures.value)
    ∙ c.in_ok-add_broken.ensures.busy in
    subst
    (λ (loops : List LoopingEnd). MatchOption c.args.busy (loops ≡ []) (λ b. b.place < count v
    → loops ≡ loop_of v b.place b.stream b.steps ∷ []))
    (sym same) (c.in_ok-add_busy.ensures.busy c.in_ok-ends.ensures.kinds)
