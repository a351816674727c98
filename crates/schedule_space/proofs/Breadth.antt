-- Breadth first: schedules that are as short as any.
use Rattle.std.proofs.Common.{◌≡◌, ℕ, ◌+◌, ◌<◌, ◌≤◌, sym, ap, ◌∙◌, subst, arith, List, [], ◌∷◌, ◌++◌}
use Rattle.std.proofs.Common.{◌⊎◌, inl, inr, length, get_or, length-append, append_assoc, append-nil}
use Rattle.std.specs.List.{Contains}
use Rattle.std.proofs.lemmas.Bool.{cases_lt}
use Rattle.processor.specs.World.{after, run}
use Rattle.processor.specs.declared.steps.Step.{Step}
use Rattle.std.specs.Prelude.{IsTrue}
use Rattle.agreeing_ends.specs.SameFutures.Handlers.{may_have_handlers}
use Rattle.world_keys.specs.DeadRegisters.Clearing.{IsLive, AgreeBy}
use Rattle.agreeing_ends.proofs.Reached.{has_all_worlds}
use Rattle.schedule_space.specs.declared.links.Link.{Link}
use Rattle.schedule_space.specs.declared.links.Edge.{Edge}
use Rattle.schedule_space.specs.Spaces.{schedules, SpaceValue, count, schedule_of, world_of, IsComplete}
use Rattle.schedule_space.specs.Spaces.{StandsFor, AreAllApart, StandAlone, IsShortest, IsEdge, IsEdgeToStandIn, HasAllEdges}
use Rattle.schedule_space.specs.Finding.{with_link, found_in, IsTaken, IsExpanded, IsBreadthFirst}
use Rattle.schedule_space.proofs.Schedules.{first-schedule}
use Rattle.schedule_space.proofs.Agreeing.{Named, Live, Asked, agree_same, agree_both, ground, next_stands, from_begin}
use Rattle.schedule_space.proofs.Growing.{last_schedule, other_schedule}
use Rattle.schedule_space.proofs.Parts.{below_next}

-- how many steps the schedule of a place has
abbrev pub depth : SpaceValue → ℕ → ℕ
depth v k = length (schedule_of v k)

last_depth : (v : SpaceValue) (l : Link) → depth (with_link v l) (count v) ≡ depth v l.from + 1
last_depth v l = ap length (last_schedule v l) ∙ length-append (schedule_of v l.from) (l.step ∷ [])

-- a world that is found from the place that is expanded
pub breadth_more : (v : SpaceValue) (l : Link) → l.from < count v → IsBreadthFirst v l.from
    → IsBreadthFirst (with_link v l) l.from
breadth_more v l from is = record {
  sorted = λ j k le below. by_sorted j k le (below_next v l k below);
  near = λ k below.
      subst (λ (n : ℕ). depth (with_link v l) k ≤ n + 1) (sym (other l.from from)) (by_near k (below_next v l k below));
} where
  other : (k : ℕ) → k < count v → depth (with_link v l) k ≡ depth v k
  other k less = ap length (other_schedule v l k less)

  by_near : (k : ℕ) → (k < count v) ⊎ (count v ≡ k) → depth (with_link v l) k ≤ depth v l.from + 1
  by_near k (inl less) = subst (λ (n : ℕ). n ≤ depth v l.from + 1) (sym (other k less)) (is.near k less)
  by_near k (inr same) =
      subst (λ (n : ℕ). depth (with_link v l) n ≤ depth v l.from + 1) same (omega (arith, last_depth v l))

  by_sorted : (j k : ℕ) → j ≤ k → (k < count v) ⊎ (count v ≡ k) → depth (with_link v l) j ≤ depth (with_link v l) k
  by_sorted j k le (inl less) =
      omega (arith, other j (omega (arith, le, less)), other k less, is.sorted j k le less)
  by_sorted j k le (inr same) =
      let last : depth (with_link v l) k ≡ depth v l.from + 1 =
      ap (depth (with_link v l)) (sym same) ∙ last_depth v l in
      elim (cases_lt j (count v)) [
        | inl less ↦ omega (arith, other j less, is.near j less, last)
        | inr past ↦
            let at : j ≡ k = omega (arith, past, le, same) in
            subst (λ (n : ℕ). depth (with_link v l) n ≤ depth (with_link v l) k) (sym at) (omega arith)
      ]

pub breadth_stays : (v w : SpaceValue) (from : ℕ) → w.begin ≡ v.begin → w.links ≡ v.links → IsBreadthFirst v from → IsBreadthFirst w from
breadth_stays v w from begin links is = record {
  sorted = λ j k le below.
      subst (λ (xs : List (List Step)). length (get_or xs j []) ≤ length (get_or xs k [])) same
      (is.sorted j k le (omega (arith, below, ap length links)));
  near = λ k below.
      subst (λ (xs : List (List Step)). length (get_or xs k []) ≤ length (get_or xs from []) + 1) same
      (is.near k (omega (arith, below, ap length links)));
} where
  same : schedules v.begin v.links ≡ schedules w.begin w.links
  same = λ i. schedules (sym begin i) (sym links i)

-- on to the next place
pub breadth_next : (v : SpaceValue) (from : ℕ) → from + 1 < count v → IsBreadthFirst v from
    → IsBreadthFirst v (from + 1)
breadth_next v from below is = record {
  sorted = is.sorted;
  near = λ k less. omega (arith, is.near k less, is.sorted from (from + 1) (omega arith) below);
}

-- at the start
pub breadth_begun : (v : SpaceValue) → v.links ≡ [] → IsBreadthFirst v 0
breadth_begun v none = record {
  sorted = λ j k le below.
      let at : j ≡ k = omega (arith, le, below, ap length none) in
      subst (λ (n : ℕ). depth v n ≤ depth v k) (sym at) (omega arith);
  near = λ k below.
      let at : 0 ≡ k = omega (arith, below, ap length none) in
      subst (λ (n : ℕ). depth v n ≤ depth v 0 + 1) at (omega arith);
}

-- Where all worlds are expanded, one stands for each world that a schedule leads to, at a place whose schedule is no longer.

pub record IsNear (v : SpaceValue) (ts : List Step) : Type 0 where
  pub place : ℕ
  pub below : place < count v
  pub stands : StandsFor v place (run v.image ts)
  pub short : depth v place ≤ length ts

near_all : (v : SpaceValue) → IsLive v.image v.live → ((k : ℕ) → k < count v → IsExpanded v k) → (ts : List Step)
    → IsNear v (v.begin ++ ts)
near_all v live all ts =
    let r =
    has_all_worlds (IsTrue (may_have_handlers v.image)) (Named v.live) (Live v.live) (Asked v.live) (found_in v) (ground v live)
    (λ k below t. (all k below t).step) ts in
    let short : depth v r.place ≤ depth v 0 + length ts = r.short in
    record {
      place = r.place;
      below = r.below;
      stands = subst (AgreeBy v.live (world_of v r.place)) (from_begin v ts) r.stands;
      short = omega (arith, short, ap length (first-schedule v.begin v.links), length-append v.begin ts);
    }

pub complete_from : (v : SpaceValue) → IsLive v.image v.live → StandAlone v
    → ((k : ℕ) → k < count v → IsExpanded v k) → IsComplete v
complete_from v live alone all ts =
    let n = near_all v live all ts in
    (n.place, n.below, alone n.place n.below (run v.image (v.begin ++ ts)) n.stands)

near_short : (v : SpaceValue) (k : ℕ) (ts : List Step) → AreAllApart v → k < count v → run v.image ts ≡ world_of v k
    → IsNear v ts → depth v k ≤ length ts
near_short v k ts apart below leads n =
    let same : n.place ≡ k = apart n.place k n.below below (subst (AgreeBy v.live (world_of v n.place)) leads n.stands) in
    subst (λ (j : ℕ). depth v j ≤ length ts) same n.short

pub shortest_all : (v : SpaceValue) → IsLive v.image v.live → AreAllApart v
    → ((k : ℕ) → k < count v → IsExpanded v k) → IsShortest v
shortest_all v live apart all k below ts leads =
    near_short v k (v.begin ++ ts) apart below leads (near_all v live all ts)

-- Where only the worlds before a place are expanded, so it is of each schedule that is not longer than that of the place.

abbrev pub IsNearOrLong : SpaceValue → ℕ → List Step → Type 0
IsNearOrLong v from ts = IsNear v ts ⊎ (depth v from + 1 ≤ length ts)

near_start : (v : SpaceValue) → IsNear v v.begin
near_start v = record {
  place = 0;
  below = omega arith;
  stands = agree_same v.live (world_of v 0) (run v.image v.begin) (ap (run v.image) (first-schedule v.begin v.links));
  short = omega (arith, ap length (first-schedule v.begin v.links));
}

near_more : (v : SpaceValue) (ts : List Step) (t : Step) → IsLive v.image v.live → (n : IsNear v ts) → IsExpanded v n.place
    → IsNear v (ts ++ t ∷ [])
near_more v ts t live n all =
    let e = (all t).step in
    let near : depth v e.to ≤ depth v n.place + 1 = e.near in
    record {
      place = e.to;
      below = e.within;
      stands =
          agree_both v.live (world_of v e.to) (after v.image (world_of v n.place) t) (run v.image (ts ++ t ∷ [])) e.leads
          (next_stands v live n.place ts t n.stands);
      short = omega (arith, near, n.short, length-append ts (t ∷ []));
    }

step_more : (v : SpaceValue) (from : ℕ) (ts : List Step) (t : Step) → IsLive v.image v.live → IsBreadthFirst v from
    → ((k : ℕ) → k < from → IsExpanded v k) → IsNearOrLong v from ts → IsNearOrLong v from (ts ++ t ∷ [])
step_more v from ts t live breadth all (inr long) = inr (omega (arith, long, length-append ts (t ∷ [])))
step_more v from ts t live breadth all (inl n) = by_case (cases_lt n.place from) where
  by_case : (n.place < from) ⊎ (from ≤ n.place) → IsNearOrLong v from (ts ++ t ∷ [])
  by_case (inl less) = inl (near_more v ts t live n (all n.place less))
  by_case (inr past) =
      inr (omega (arith, breadth.sorted from n.place past n.below, n.short, length-append ts (t ∷ [])))

near_or_long : (v : SpaceValue) (from : ℕ) (us ts : List Step) → IsLive v.image v.live → IsBreadthFirst v from
    → ((k : ℕ) → k < from → IsExpanded v k) → IsNearOrLong v from us → IsNearOrLong v from (us ++ ts)
near_or_long v from us [] live breadth all n = subst (IsNearOrLong v from) (sym (append-nil us)) n
near_or_long v from us (t ∷ ts) live breadth all n =
    subst (IsNearOrLong v from) (append_assoc us (t ∷ []) ts)
    (near_or_long v from (us ++ t ∷ []) ts live breadth all (step_more v from us t live breadth all n))

pub shortest_below : (v : SpaceValue) (from : ℕ) → IsLive v.image v.live → AreAllApart v → IsBreadthFirst v from
    → ((k : ℕ) → k < from → IsExpanded v k) → IsShortest v
shortest_below v from live apart breadth all k below ts leads =
    by_case (near_or_long v from v.begin ts live breadth all (inl (near_start v))) where
      by_case : IsNearOrLong v from (v.begin ++ ts) → depth v k ≤ length (v.begin ++ ts)
      by_case (inl n) = near_short v k (v.begin ++ ts) apart below leads n
      by_case (inr long) = omega (arith, breadth.near k below, long)

-- All edges, where each world stands for itself alone.

edge_alone : (v : SpaceValue) (e : Edge) → StandAlone v → IsEdgeToStandIn v e → IsEdge v e
edge_alone v e alone is = record {
  from = is.from;
  to = is.to;
  apart = is.apart;
  leads = alone e.to is.to (after v.image (world_of v e.from) e.step) is.leads;
}

pub all_edges : (v : SpaceValue) → AreAllApart v → StandAlone v → ((k : ℕ) → k < count v → IsExpanded v k)
    → ((e : Edge) → Contains v.edges e → IsEdgeToStandIn v e) → HasAllEdges v
all_edges v apart alone all edges e =
    (λ has. edge_alone v e alone (edges e has), λ is. by_taken is (all e.from is.from e.step)) where
      by_edge : (to : ℕ) → (e.to ≡ e.from → ⊥) → to ≡ e.to
          → (to ≡ e.from) ⊎ Contains v.edges (record { from = e.from; step = e.step; to = to }) → Contains v.edges e
      by_edge to off at (inl stays) = absurd (off (sym at ∙ stays))
      by_edge to off at (inr has) =
          subst (λ (n : ℕ). Contains v.edges (record { from = e.from; step = e.step; to = n })) at has

      by_taken : IsEdge v e → IsTaken v e.from e.step → Contains v.edges e
      by_taken is taken =
          let to = taken.step.to in
          let same : to ≡ e.to =
          apart to e.to taken.step.within is.to (subst (AgreeBy v.live (world_of v to)) (sym is.leads) taken.step.leads) in
          by_edge to is.apart same taken.edge
