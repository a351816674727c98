use Rattle.std.proofs.Common.{slice_index_or, ◌≡◌, ℕ, ◌+◌, ◌<◌, List, [], ◌∷◌, ◌++◌, length, sym, subst, rules, map}
use Rattle.std.specs.Prelude.{Vec}
use Rattle.std.specs.List.{HoldsAt}
use Rattle.std.specs.Global.{Global}
use Rattle.lab_ends.specs.ScheduleSpace.Spaces.{count}
use Rattle.lab_ends.specs.SpaceEnds.Links.{link_of}
use Rattle.space_graphs.specs.Ahead.{AreNumbersIn, AreMarks}
use Rattle.space_graphs.proofs.EndsAhead.{each_more, ahead_at}
use Rattle.space_graphs.proofs.ahead.ends_ahead.Goals as goal

pub loop-place-preserved : goal.loop-place-preserved
loop-place-preserved c =
    let marks = c.in_ok-marks.marks.items in
    let k = c.loop-place.place in
    let numbers = c.in_ok-numbers_at.field-0 in
    let here : AreNumbersIn marks k numbers = search rules in
    let items : c.push.new.self.items ≡ c.loop-place.ahead.items ++ numbers ∷ [] = search rules in
    let many : length c.push.new.self.items ≡ k + 1 = search rules in
    record {
      many = many;
      each =
          subst (λ (xs : List (Vec ℕ Global)). (j : ℕ) → j < k + 1 → HoldsAt (AreNumbersIn marks j) xs j) (sym items)
          (each_more (AreNumbersIn marks) c.loop-place.ahead.items k numbers c.loop-place.invariant.many
          c.loop-place.invariant.each here);
    }

pub returns : goal.returns
returns c =
    let v = c.args.space.now in
    let ends = c.args.ends.now in
    let marks = c.in_ok-marks.marks.items in
    let ahead = c.loop-place.ahead.items in
    let same : c.loop-place.place ≡ count v = search rules in
    let leads : AreMarks (count v) (map link_of v.edges) ends marks = search rules in
    let many : length ahead ≡ count v = search rules in
    let each : (k : ℕ) → k < count v → HoldsAt (AreNumbersIn marks k) ahead k =
    subst (λ (n : ℕ). (k : ℕ) → k < n → HoldsAt (AreNumbersIn marks k) ahead k) same c.loop-place.invariant.each in
    record {
      many = many;
      each = λ k below d. ahead_at v ends marks k (slice_index_or ahead k d).items leads below (each k below d);
    }
