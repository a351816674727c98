-- In a space that has all worlds, a stream loops alone exactly where each place that its steps lead to leads back.
use Rattle.std.proofs.Common.{◌≡◌, ◌≢◌, ◌⊎◌, ◌↔◌, inl, inr, ℕ, zero, suc, ◌+◌, ◌*◌, ◌<◌, ◌≤◌, refl, sym, ap, ◌∙◌, subst, arith}
use Rattle.std.proofs.Common.{List, [], ◌∷◌, ◌++◌, length, replicate}
use Rattle.std.proofs.Common.{append_assoc, add_comm, mul-suc, suc-mul, zero-mul}
use Rattle.image_file.specs.ImageValue.{ImageValue}
use Rattle.processor.specs.World.{World, after, run, steps}
use Rattle.processor.specs.declared.steps.Step.{Step}
use Rattle.std.proofs.lemmas.Bool.{cases_lt}
use Rattle.terminal_components.specs.declared.links.Link.{Link}
use Rattle.terminal_components.specs.Ways.{link_at, IsFrom, IsWay, Reaches}
use Rattle.terminal_components.specs.Components.{IsTerminal}
use Rattle.terminal_components.specs.Cycles.{HasNoCycle}
use Rattle.terminal_components.specs.Cycles as ways
use Rattle.terminal_components.proofs.Ways.{way_inside, reaches_on}
use Rattle.schedule_space.specs.declared.links.Edge.{Edge}
use Rattle.schedule_space.specs.Spaces.{SpaceValue, count, world_of, Has, HasEarlierLinks, IsEdge}
use Rattle.schedule_space.proofs.Schedules.{run-push}
use Rattle.busy_streams.specs.Busy.{alone, IsCycle, IsShortestCycle, IsBusy}
use Rattle.busy_streams.specs.BusySpaces.{HasAllWorlds, IsBusyAt}
use Rattle.busy_streams.specs.OwnCycles.{link_of, own_links, ComesBack, IsFreeCycle}
use Rattle.busy_streams.proofs.OwnLinks.{link-found, edge-found}
use Rattle.busy_streams.proofs.Begun.{begun}

same_or_other : (j k : ℕ) → (j ≡ k) ⊎ (j ≢ k)
same_or_other j k = elim (cases_lt j k) [
  | inl below ↦ inr (λ e. omega arith)
  | inr above ↦ elim (cases_lt k j) [ inl less ↦ inr (λ e. omega arith) | inr most ↦ inl (omega arith) ]
]

-- Steps of one stream, one after the other.

alone-add : (image : ImageValue) (w : World) (t : Step) (m n : ℕ) → alone image w t (m + n) ≡ alone image (alone image w t m) t n
alone-add image w t zero n = let e : zero + n ≡ n = omega arith in ap (alone image w t) e
alone-add image w t (suc m) n =
    let e : suc m + n ≡ suc (m + n) = omega arith in
    ap (alone image w t) e ∙ alone-add image (after image w t) t m n

-- cycle after cycle
alone-often : (image : ImageValue) (w : World) (t : Step) (n m : ℕ) → alone image w t n ≡ w → alone image w t (m * n) ≡ w
alone-often image w t n zero back = ap (alone image w t) (zero-mul n)
alone-often image w t n (suc m) back =
    let e : suc m * n ≡ n + m * n = suc-mul m n ∙ add_comm (m * n) n in
    ap (alone image w t) e ∙ alone-add image w t n (m * n)
    ∙ ap (λ x. alone image x t (m * n)) back ∙ alone-often image w t n m back

-- what is left of so many cycles
left : (m n : ℕ) → 0 < n → (r : ℕ) × (m + r ≡ m * n)
left m zero some = absurd (omega (arith, some))
left m (suc n) some = (m * n, add_comm m (m * n) ∙ sym (mul-suc m n))

module _ (v : SpaceValue) (plain : HasAllWorlds v) (earlier : HasEarlierLinks v) (t : Step) where
  abbrev links : List Link
  links = own_links t v.edges

  -- the place that a step leads to
  next : (k : ℕ) → k < count v → Has v (after v.image (world_of v k) t)
  next k below =
      let on = begun v earlier k below in
      let has = plain.complete (on.0 ++ t ∷ []) in (
        has.0,
        has.1,
        has.2
            ∙ sym (ap (run v.image) (append_assoc v.begin on.0 (t ∷ [])))
            ∙ run-push v.image (v.begin ++ on.0) t
            ∙ ap (λ w. after v.image w t) on.1,
      )

  -- a link is a step
  steps_by : (i from : ℕ) → IsFrom (count v) links i from
      → world_of v (link_at links i).to ≡ after v.image (world_of v from) t
  steps_by i from is =
      let found = link-found t v.edges i is.there in
      let edge = (plain.edges found.edge).0 found.there in
      let start : found.edge.from ≡ from = sym (ap (λ (l : Link). l.from) found.is) ∙ is.from_is in
      ap (λ (l : Link). world_of v l.to) found.is ∙ edge.leads
      ∙ ap (λ k. after v.image (world_of v k) found.edge.step) start
      ∙ ap (after v.image (world_of v from)) found.own

  -- and leads to another place
  apart_by : (i from : ℕ) → IsFrom (count v) links i from → (link_at links i).to ≢ from
  apart_by i from is same =
      let found = link-found t v.edges i is.there in
      let edge = (plain.edges found.edge).0 found.there in
      edge.apart (sym (ap (λ (l : Link). l.to) found.is) ∙ same ∙ sym is.from_is ∙ ap (λ (l : Link). l.from) found.is)

  -- a step to another place is a link
  record IsLinked (from to : ℕ) : Type 0 where
    number : ℕ
    is : IsFrom (count v) links number from
    leads : (link_at links number).to ≡ to

  linked : (k j : ℕ) → k < count v → j < count v → world_of v j ≡ after v.image (world_of v k) t → j ≢ k → IsLinked k j
  linked k j below within is apart =
      let e : Edge = record { from = k; step = t; to = j } in
      let there = (plain.edges e).1 (record { from = below; to = within; apart = apart; leads = is }) in
      let found = edge-found t v.edges e there refl in
      let to : (link_at links found.number).to ≡ j = ap (λ (l : Link). l.to) found.is in
      record {
        number = found.number;
        is = record {
          there = found.there;
          from_is = ap (λ (l : Link). l.from) found.is;
          from_in = below;
          to_in = subst (λ n. n < count v) (sym to) within;
        };
        leads = to;
      }

  -- Ways along links, and steps.

  way_alone : (is : List ℕ) (from to : ℕ) → IsWay (count v) links from is to
      → alone v.image (world_of v from) t (length is) ≡ world_of v to
  way_alone [] from to same = ap (world_of v) same
  way_alone (i ∷ is) from to way =
      ap (λ w. alone v.image w t (length is)) (sym (steps_by i from way.0))
      ∙ way_alone is (link_at links i).to to way.1

  -- a way with so many links at most
  record HasWay (most from to : ℕ) : Type 0 where
    numbers : List ℕ
    way : IsWay (count v) links from numbers to
    within : length numbers ≤ most

  linked_way : (most k i j : ℕ) → IsLinked k i → HasWay most i j → HasWay (suc most) k j
  linked_way most k i j link rest = record {
    numbers = link.number ∷ rest.numbers;
    way = (link.is, subst (λ n. IsWay (count v) links n rest.numbers j) (sym link.leads) rest.way);
    within = let less = rest.within in omega (arith, less);
  }

  longer : (most k j : ℕ) → HasWay most k j → HasWay (suc most) k j
  longer most k j has = record {
    numbers = has.numbers;
    way = has.way;
    within = let less = has.within in omega (arith, less);
  }

  alone_way : (m k j : ℕ) → k < count v → j < count v → alone v.image (world_of v k) t m ≡ world_of v j → HasWay m k j
  alone_way zero k j below within is =
      record { numbers = []; way = plain.distinct k j below within is; within = omega arith }
  alone_way (suc m) k j below within is =
      let on = next k below in
      let rest = alone_way m on.0 j on.1 within (ap (λ w. alone v.image w t m) on.2 ∙ is) in
      elim (same_or_other on.0 k) [
        | inl same ↦ longer m k j (subst (λ n. HasWay m n j) same rest)
        | inr other ↦ linked_way m k on.0 j (linked k on.0 below on.1 on.2 other) rest
      ]

  -- Where each place leads back.

  terminal_cycle : (k : ℕ) → k < count v → ComesBack v k t → (n : ℕ) × IsCycle v.image (world_of v k) t n
  terminal_cycle k below back =
      let on = next k below in
      elim (same_or_other on.0 k) [
        | inl same ↦ (1, record { some = omega arith; back = sym on.2 ∙ ap (world_of v) same })
        | inr other ↦
            let link = linked k on.0 below on.1 on.2 other in
            let way = back on.0 (link.number ∷ [], (link.is, link.leads)) in (
              suc (length way.0),
              record {
                some = omega arith;
                back = ap (λ w. alone v.image w t (length way.0)) (sym on.2) ∙ way_alone way.0 on.0 k way.1;
              },
            )
      ]

  cycle_terminal : (k : ℕ) → k < count v → (n : ℕ) → IsCycle v.image (world_of v k) t n → ComesBack v k t
  cycle_terminal k below n cycle j leads =
      let m = length leads.0 in
      let w = world_of v k in
      let here : alone v.image w t m ≡ world_of v j = way_alone leads.0 k j leads.1 in
      let inside = way_inside (count v) links leads.0 k j below leads.1 in
      let rest = left m n cycle.some in
      let on : alone v.image (world_of v j) t rest.0 ≡ w =
      ap (λ x. alone v.image x t rest.0) (sym here) ∙ sym (alone-add v.image w t m rest.0)
      ∙ ap (alone v.image w t) rest.1 ∙ alone-often v.image w t n m cycle.back in
      let way = alone_way rest.0 j k inside below on in
      (way.numbers, way.way)

  pub busy-cycle : (k : ℕ) → k < count v → IsFreeCycle v k t → IsBusyAt v k t
  busy-cycle k below is = record { runs = is.runs; free = is.free; cycle = terminal_cycle k below is.back }

  pub cycle-busy : (k : ℕ) → k < count v → IsBusyAt v k t → IsFreeCycle v k t
  cycle-busy k below is =
      record { runs = is.runs; free = is.free; back = cycle_terminal k below is.cycle.0 is.cycle.1 }

  -- How many steps it takes.

  -- where there is a cycle
  pub shortest_way : (k : ℕ) → k < count v → (numbers : List ℕ) → ways.IsShortestCycle (count v) links k numbers
      → IsShortestCycle v.image (world_of v k) t (length numbers)
  shortest_way k below numbers is = record {
    cycle = record { some = is.cycle.1; back = way_alone numbers k k is.cycle.0 };
    least = least_of;
  } where
    goes : (ns : List ℕ) → IsWay (count v) links k ns k → 0 < length ns → (next k below).0 ≢ k
    goes [] way some same = omega (arith, some)
    goes (i ∷ ns) way some same =
        let on = next k below in
        apart_by i k way.0
        (plain.distinct (link_at links i).to k way.0.to_in below
        (steps_by i k way.0 ∙ sym on.2 ∙ ap (world_of v) same))

    least_of : (m : ℕ) → IsCycle v.image (world_of v k) t m → length numbers ≤ m
    least_of zero cycle = absurd (let some = cycle.some in omega (arith, some))
    least_of (suc m) cycle =
        let on = next k below in
        let other = goes numbers is.cycle.0 is.cycle.1 in
        let link = linked k on.0 below on.1 on.2 other in
        let rest = alone_way m on.0 k on.1 below (ap (λ w. alone v.image w t m) on.2 ∙ cycle.back) in
        let way = subst (λ n. IsWay (count v) links n rest.numbers k) (sym link.leads) rest.way in
        let less = is.shortest (link.number ∷ rest.numbers) ((link.is, way), omega arith) in
        let most = rest.within in
        omega (arith, less, most)

  -- where there is none
  pub shortest_step : (k : ℕ) → k < count v → ComesBack v k t → HasNoCycle (count v) links k → IsShortestCycle v.image (world_of v k) t 1
  shortest_step k below back none = record {
    cycle = record { some = omega arith; back = stays };
    least = λ m cycle. let some = cycle.some in omega (arith, some);
  } where
    stays : alone v.image (world_of v k) t 1 ≡ world_of v k
    stays =
        let on = next k below in
        elim (same_or_other on.0 k) [
          | inl same ↦ sym on.2 ∙ ap (world_of v) same
          | inr other ↦
              let link = linked k on.0 below on.1 on.2 other in
              let way = back on.0 (link.number ∷ [], (link.is, link.leads)) in
              absurd (none (link.number ∷ way.0)
              ((link.is, subst (λ n. IsWay (count v) links n way.0 k) (sym link.leads) way.1), omega arith))
        ]
