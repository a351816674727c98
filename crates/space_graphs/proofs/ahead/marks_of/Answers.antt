use Rattle.std.proofs.Common.{◌≡◌, ℕ, ◌+◌, ◌<◌, List, [], ◌∷◌, ◌++◌, ◌∙◌, length, sym, subst, rules, Bool}
use Rattle.std.specs.Prelude.{Vec}
use Rattle.std.specs.List.{HoldsAt}
use Rattle.std.specs.Global.{Global}
use Rattle.std.proofs.lemmas.List.{get_or_default}
use Rattle.terminal_components.specs.Reachability.{AreBackwardReachable}
use Rattle.lab_ends.specs.SpaceEndsTypes.SpaceEnd.{SpaceEnd}
use Rattle.space_graphs.specs.Ahead.{IsOfEnd}
use Rattle.space_graphs.proofs.EndsAhead.{each_more}
use Rattle.space_graphs.proofs.ahead.marks_of.Goals as goal

pub loop-end-preserved : goal.loop-end-preserved
loop-end-preserved c =
    let n = c.args.count in
    let links = c.args.links.now in
    let ends = c.args.ends.now in
    let i = c.loop-end.end-index in
    let end = c.end-item.result in
    let mark = c.in_ok-places_that_reach.field-0 in
    let below : i < length ends = search rules in
    let leads : AreBackwardReachable n links end.places.items mark.items = search rules in
    let here : IsOfEnd n links ends i mark =
    λ d. subst (λ (e : SpaceEnd). AreBackwardReachable n links e.places.items mark.items) (c.end-item.is ∙ get_or_default ends i end d below) leads in
    let items : c.push.new.self.items ≡ c.loop-end.marks.items ++ mark ∷ [] = search rules in
    let many : length c.push.new.self.items ≡ i + 1 = search rules in
    record {
      many = many;
      each =
          subst (λ (xs : List (Vec Bool Global)). (k : ℕ) → k < i + 1 → HoldsAt (IsOfEnd n links ends k) xs k) (sym items)
          (each_more (IsOfEnd n links ends) c.loop-end.marks.items i mark c.loop-end.invariant.many
          c.loop-end.invariant.each here);
    }

pub returns : goal.returns
returns c =
    let same : c.loop-end.end-index ≡ length c.args.ends.now = search rules in
    record {
      many = c.loop-end.invariant.many ∙ same;
      each =
          subst
          (λ (n : ℕ). (i : ℕ) → i < n → HoldsAt (IsOfEnd c.args.count c.args.links.now c.args.ends.now i) c.loop-end.marks.items i)
          same c.loop-end.invariant.each;
    }
