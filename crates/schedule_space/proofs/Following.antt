-- Spaces in which a step that can be taken before all others may be taken alone have all ends.
use Rattle.std.proofs.Common.{◌≡◌, ℕ, zero, suc, ◌+◌, ◌<◌, ◌≤◌, ◌⊎◌, inl, inr, refl, sym, ap, subst, arith}
use Rattle.std.proofs.Common.{List, [], ◌∷◌, length, Bool, length-append}
use Rattle.std.specs.Prelude.{IsTrue}
use Rattle.std.specs.List.{Contains}
use Rattle.processor.specs.World.{steps}
use Rattle.processor.specs.declared.steps.Step.{Step}
use Rattle.agreeing_ends.specs.SameFutures.Handlers.{may_have_handlers}
use Rattle.world_keys.specs.DeadRegisters.Clearing.{IsLive, AgreeBy}
use Rattle.agreeing_ends.specs.Followed as found
use Rattle.agreeing_ends.proofs.Moving.{moved}
use Rattle.agreeing_ends.proofs.Reached.{moves_on, end_on, has_all_ends, has_shortest_ends, tells_whether_all_end}
use Rattle.schedule_space.specs.Spaces.{SpaceValue, count, world_of, AreAllApart}
use Rattle.schedule_space.specs.Reaching.{IsEnd, CanEnd, IsMarked, HasEndsMarked, AreMarkedBack}
use Rattle.schedule_space.specs.Finding.{found_in, IsTaken}
use Rattle.schedule_space.specs.Followed.{AllFollowed, IsFollowed, HasAllEnds, HasShortestEnds, TellsWhetherAllEnd}
use Rattle.schedule_space.proofs.Schedules.{first-schedule}
use Rattle.schedule_space.proofs.Agreeing.{agree_same, Named, Live, Asked, ground, from_begin}
use Rattle.schedule_space.proofs.Breadth.{depth}

module _ (v : SpaceValue) (live : IsLive v.image v.live) (all : AllFollowed v) where
  abbrev Handled : Type 0
  Handled = IsTrue (may_have_handlers v.image)

  followed_at : (k : ℕ) → IsFollowed v k
      → found.IsExpanded (AgreeBy v.live) (found_in v) k ⊎ found.IsTakenTogether (AgreeBy v.live) (found_in v) k
  followed_at k (inl each) = inl (λ t. (each t).step)
  followed_at k (inr some) =
      inr (record { set = some.set; first = some.first; taken = λ t there. (some.taken t there).step })

  followed : found.AllFollowed (AgreeBy v.live) (found_in v)
  followed k below = followed_at k (all k below)

  pub ends_all : HasAllEnds v
  ends_all ts end =
      let r =
      has_all_ends Handled (Named v.live) (Live v.live) (Asked v.live) (found_in v) (ground v live) followed ts
      (subst (IsEnd v.image) (sym (from_begin v ts)) end) in
      (r.place, r.below, subst (AgreeBy v.live (world_of v r.place)) (from_begin v ts) r.stands)

  pub ends_shortest : AreAllApart v → HasShortestEnds v
  ends_shortest apart k below end ts stands =
      let near : depth v k ≤ depth v 0 + length ts =
      has_shortest_ends Handled (Named v.live) (Live v.live) (Asked v.live) (found_in v) (ground v live) followed
      (λ j i jb ib. apart j i jb ib) k below end ts
      (subst (AgreeBy v.live (world_of v k)) (sym (from_begin v ts)) stands) in
      omega (arith, near, ap length (first-schedule v.begin v.links), length-append v.begin ts)

  pub tells_all : TellsWhetherAllEnd v
  tells_all can ts =
      subst (CanEnd v.image) (from_begin v ts)
      (tells_whether_all_end Handled (Named v.live) (Live v.live) (Asked v.live) (found_in v) (ground v live) followed can ts)

  -- Where nothing is left to mark, each world that can end is marked.

  module _ (marks : List Bool) (ends : HasEndsMarked v marks) (back : AreMarkedBack v marks) where
    back_over : (k : ℕ) (t : Step) (e : IsTaken v k t) → IsMarked marks e.step.to → IsMarked marks k
    back_over k t e mark = by_edge e.edge where
      by_edge : (e.step.to ≡ k) ⊎ Contains v.edges (record { from = k; step = t; to = e.step.to }) → IsMarked marks k
      by_edge (inl same) = subst (IsMarked marks) same mark
      by_edge (inr has) = back (record { from = k; step = t; to = e.step.to }) has mark

    -- the same end, of the world that a step leads to
    same_end : (k : ℕ) (t : Step) (ts us : List Step) (e : IsTaken v k t) → k < count v
        → AgreeBy v.live (steps v.image (world_of v k) (t ∷ us)) (steps v.image (world_of v k) ts)
        → IsEnd v.image (steps v.image (world_of v k) ts) → IsEnd v.image (steps v.image (world_of v e.step.to) us)
    same_end k t ts us e = end_on Handled (Named v.live) (Live v.live) (Asked v.live) (found_in v) (ground v live) k t ts us e.step

    pub marked_from : (n k : ℕ) (ts : List Step) → length ts ≤ n → k < count v
        → IsEnd v.image (steps v.image (world_of v k) ts) → IsMarked marks k
    marked_from n k [] few below end = ends k below end
    marked_from zero k (t ∷ ts) few below end = absurd (omega (arith, few))
    marked_from (suc n) k (t ∷ ts) few below end =
        elim (all k below) [
          | inl each ↦
              back_over k t (each t)
              (marked_from n (each t).step.to ts (omega (arith, few)) (each t).step.within
              (same_end k t (t ∷ ts) ts (each t) below
              (agree_same v.live (steps v.image (world_of v k) (t ∷ ts)) (steps v.image (world_of v k) (t ∷ ts)) refl) end))
          | inr some ↦
              let on = moves_on Handled (Named v.live) (Live v.live) (Asked v.live) (found_in v) (ground v live) k below in
              let m = moved (AgreeBy v.live) v.image (world_of v k) some.set some.first on (t ∷ ts) end in
              let e = some.taken m.step m.there in
              back_over k m.step e
              (marked_from n e.step.to m.others (omega (arith, few, m.one_less)) e.step.within
              (same_end k m.step (t ∷ ts) m.others e below m.leads end))
        ]

    pub marked_all : (k : ℕ) → k < count v → CanEnd v.image (world_of v k) → IsMarked marks k
    marked_all k below can = marked_from (length can.0) k can.0 (omega arith) below can.1
