use Rattle.std.proofs.Common.{◌≡◌, ◌+◌, ◌++◌, [], ◌∷◌, ℕ, List, length, arith, rules, refl, sym, subst}
use Rattle.terminal_components.specs.Ways.{IsWay, link_at}
use Rattle.terminal_components.specs.Cycles.{AreDistances, HasNoNearLink, IsNearestLink}
use Rattle.terminal_components.proofs.Ways.{way_push}
use Rattle.terminal_components.proofs.Distances.{from_nearest, nearest_least, none_least, next_less, no_dead_end}
use Rattle.terminal_components.proofs.cycles.shortest_cycle.Goals as goal

pub returns-in_default : goal.returns-in_default
returns-in_default c = λ numbers round.
    let ds = c.in_ok-distances.distances.items in
    let none : HasNoNearLink c.args.links.now ds c.args.place = search rules in
    none_least c.args.count c.args.links.now c.args.place ds c.args.place c.in_ok-distances.ensures none numbers
    round.0 round.1

pub loop-here-init : goal.loop-here-init
loop-here-init c =
    let n = c.args.count in
    let links = c.args.links.now in
    let place = c.args.place in
    let ds = c.in_ok-distances.distances.items in
    let b = c.in-Some.first in
    let to = (link_at links b).to in
    let d : AreDistances n links place ds = c.in_ok-distances.ensures in
    let nearest : IsNearestLink links ds place b = search rules in
    let from = from_nearest n links place ds b d.many nearest in
    let one : IsWay n links place (b ∷ []) to = (from, refl) in
    let items : c.push.new.self.items ≡ b ∷ [] = search rules in
    let many : length c.push.new.self.items ≡ 1 = search rules in
    record {
      inside = from.to_in;
      near = nearest.near;
      way = subst (λ (xs : List ℕ). IsWay n links place xs to) (sym items) one;
      some = omega (arith, many);
      short = λ others round.
          let less = nearest_least n links place ds place b d nearest others round.0 round.1 in
          omega (arith, less, many);
    }

pub returns-in_default-nearest_link : goal.returns-in_default-nearest_link
returns-in_default-nearest_link c = λ _ _.
    let ds = c.in_ok-distances.distances.items in
    let here = c.loop-here.here in
    let none : HasNoNearLink c.args.links.now ds here = search rules in
    let apart : here ≡ c.args.place → ⊥ = search rules in
    no_dead_end c.args.count c.args.links.now c.args.place ds here c.in_ok-distances.ensures
    c.loop-here.invariant.inside c.loop-here.invariant.near apart none

pub loop-here-smaller : goal.loop-here-smaller
loop-here-smaller c =
    let ds = c.in_ok-distances.distances.items in
    let here = c.loop-here.here in
    let b = c.in-Some-nearest_link.number in
    let nearest : IsNearestLink c.args.links.now ds here b = search rules in
    let apart : here ≡ c.args.place → ⊥ = search rules in
    let less =
    next_less c.args.count c.args.links.now c.args.place ds here b c.in_ok-distances.ensures
    c.loop-here.invariant.inside c.loop-here.invariant.near apart nearest in
    omega (arith, less)

pub loop-here-preserved : goal.loop-here-preserved
loop-here-preserved c =
    let n = c.args.count in
    let links = c.args.links.now in
    let place = c.args.place in
    let ds = c.in_ok-distances.distances.items in
    let here = c.loop-here.here in
    let b = c.in-Some-nearest_link.number in
    let to = (link_at links b).to in
    let d : AreDistances n links place ds = c.in_ok-distances.ensures in
    let nearest : IsNearestLink links ds here b = search rules in
    let apart : here ≡ place → ⊥ = search rules in
    let from = from_nearest n links here ds b d.many nearest in
    let less =
    next_less n links place ds here b d c.loop-here.invariant.inside c.loop-here.invariant.near apart nearest in
    let items : c.push-in-loop-here.new.self.items ≡ c.loop-here.numbers.items ++ b ∷ [] = search rules in
    let many : length c.push-in-loop-here.new.self.items ≡ length c.loop-here.numbers.items + 1 = search rules in
    record {
      inside = from.to_in;
      near = nearest.near;
      way =
          subst (λ (xs : List ℕ). IsWay n links place xs to) (sym items)
          (way_push n links c.loop-here.numbers.items b place here c.loop-here.invariant.way from);
      some = omega (arith, many);
      short = λ others round.
          let short = c.loop-here.invariant.short others round in
          omega (arith, less, many, short);
    }
