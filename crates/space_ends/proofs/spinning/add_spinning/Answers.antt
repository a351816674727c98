use Rattle.std.proofs.Common.{◌<◌, ◌≤◌, ◌∙◌, subst, sym, arith, length, ℕ, List, Bool, Vec, Global, rules}
use Rattle.std.specs.List.{All}
use Rattle.space_ends.specs.Spinning.{spinning_in, IsUnmarked, SomeUnmarked}
use Rattle.space_ends.proofs.Spins.{AreReachMarks, all_added}
use Rattle.space_ends.proofs.spinning.add_spinning.Goals as goal

pub loop-places-preserved : goal.loop-places-preserved
loop-places-preserved g c =
    let before = c.loop-places.invariant in
    let is = c.in_ok-add_set.ensures in
    let kind = c.in_ok-set.ensures.kind in
    let marks = c.in_ok-can_end.can_end.items in
    let each : All (λ (set : Vec ℕ Global). All (IsUnmarked marks) set.items) c.in_ok-sets.sets.items =
    subst (λ (ms : List Bool). All (λ (set : Vec ℕ Global). All (IsUnmarked ms) set.items) c.in_ok-sets.sets.items)
    c.deref.ensures.value c.in_ok-sets.ensures.each in
    let items : All (λ (set : Vec ℕ Global). All (IsUnmarked marks) set.items) c.deref-places-items.result.now =
    subst (All (λ (set : Vec ℕ Global). All (IsUnmarked marks) set.items)) (sym c.deref-places-items.ensures.value) each in
    let below : c.loop-places.places-index < length c.deref-places-items.result.now = first_of (search rules, grind arith) in
    let here : All (IsUnmarked marks) c.places-item.result.items =
    subst (λ (set : Vec ℕ Global). All (IsUnmarked marks) set.items) (sym c.places-item.is)
    (items c.loop-places.places-index c.places-item.result below) in
    let read : All (IsUnmarked marks) c.deref-in-loop-places.result.now =
    subst (λ (js : List ℕ). All (IsUnmarked marks) js) (sym c.deref-in-loop-places.ensures.value) here in
    let new : All (IsUnmarked marks) c.in_ok-set.set.places.items =
    subst (λ (js : List ℕ). All (IsUnmarked marks) js) (sym c.in_ok-set.ensures.places) read in
    let filled : All (λ (set : Vec ℕ Global). 0 < length set.items) c.deref-places-items.result.now =
    subst (All (λ (set : Vec ℕ Global). 0 < length set.items)) (sym c.deref-places-items.ensures.value)
    c.in_ok-sets.ensures.filled in
    let some : 0 < length c.places-item.result.items =
    subst (λ (set : Vec ℕ Global). 0 < length set.items) (sym c.places-item.is)
    (filled c.loop-places.places-index c.places-item.result below) in
    let there : 0 < length c.deref-in-loop-places.result.now =
    subst (λ (js : List ℕ). 0 < length js) (sym c.deref-in-loop-places.ensures.value) some in
    record {
      ends = is.ends kind ∙ before.ends;
      some = λ more. is.some kind;
      only = λ none. absurd (omega (arith, none));
      each = λ none. is.each kind marks new (before.each none);
      shown = λ old. is.shown kind c.args.space.now c.args.expected.now (c.in_ok-set.ensures.set there) (before.shown old);
      kinds = λ all. is.kinds kind (before.kinds all);
    }

pub returns-clause-spinning : goal.returns-clause-spinning
returns-clause-spinning g c = λ none.
    let last = c.loop-places.invariant in
    let v = c.args.space.now in
    let marks = c.in_ok-can_end.can_end.items in
    let are : AreReachMarks v marks = record {
      each = c.in_ok-can_end.ensures.len;
      reach = c.in_ok-can_end.ensures.reach;
      all = c.in_ok-can_end.ensures.all;
      followed = c.in_ok-can_end.ensures.followed;
    } in
    let sets = length c.in_ok-sets.sets.items in
    let some : SomeUnmarked marks → 0 < sets =
    subst (λ (ms : List Bool). SomeUnmarked ms → 0 < sets) c.deref.ensures.value c.in_ok-sets.ensures.some in
    let only : 0 < sets → SomeUnmarked marks =
    subst (λ (ms : List Bool). 0 < sets → SomeUnmarked ms) c.deref.ensures.value c.in_ok-sets.ensures.only in
    let past : sets ≤ c.loop-places.places-index = first_of (search rules, grind arith) in
    let within : c.loop-places.places-index ≤ sets = first_of (search rules, grind arith) in
    all_added v marks (spinning_in c.args.ends.now.items) (spinning_in c.loop-places.ends.items)
    c.loop-places.places-index sets are none past within some only last.some
    last.only last.each
