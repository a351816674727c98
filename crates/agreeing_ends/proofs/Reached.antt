-- What worlds that were found stand for, where those that agree count as one.
use Rattle.std.proofs.Common.{◌≡◌, ℕ, zero, suc, ◌+◌, ◌<◌, ◌≤◌, ◌⊎◌, inl, inr, refl, sym, ap, ◌∙◌, subst, arith}
use Rattle.std.proofs.Common.{List, [], ◌∷◌, ◌++◌, length}
use Rattle.processor.specs.World.{World, after, steps}
use Rattle.processor.specs.declared.steps.Step.{Step}
use Rattle.processor.proofs.Histories.{steps-append}
use Rattle.same_futures.specs.EndKindsTypes.EndKind.TheVariants as kind
use Rattle.same_futures.specs.Links.{TellsHandlers, WorldsAgree}
use Rattle.same_futures.specs.Agreeing.{EndAlike}
use Rattle.same_futures.proofs.Chains.{agree_itself, agree_next, agree_back, schedules_agree}
use Rattle.same_futures.proofs.Alike.{agreeing_end_alike}
use Rattle.agreeing_ends.specs.Followed.{IsEnd, CanEnd, FoundWorlds, IsTaken, IsExpanded, IsTakenTogether, AllExpanded, AllFollowed}
use Rattle.agreeing_ends.specs.Followed.{HasAllWorlds, HasAllEnds, IsDistinct, HasShortestEnds, TellsWhetherAllEnd, IsGrounded}
use Rattle.agreeing_ends.proofs.Moving.{MovesOn, moved_or_outside, moved}

-- The end to which a schedule leads from the world at a place is one that another one stands for, which is near.
record IsReached (R : World → World → Type 0) (v : FoundWorlds) (k : ℕ) (ts : List Step) : Type 0 where
  place : ℕ
  below : place < v.count
  stands : R (v.world place) (steps v.image (v.world k) ts)
  short : v.depth place ≤ v.depth k + length ts

module _ (handled : Type 0) (named : ℕ → Type 0) (live asked : ℕ → ℕ → Type 0) (v : FoundWorlds)
    (ground : IsGrounded handled named live asked v) where
  abbrev Agree : World → World → Type 0
  Agree = WorldsAgree named live asked

  -- wherever the world leads
  abbrev AllTold : World → Type 0
  AllTold w = (us : List Step) → TellsHandlers handled (steps v.image w us)

  pub told_on : (w : World) (ts : List Step) → AllTold w → AllTold (steps v.image w ts)
  told_on w ts told us = subst (TellsHandlers handled) (steps-append v.image w ts us) (told (ts ++ us))

  agree_on : (a b : World) (ts : List Step) → AllTold a → Agree a b → Agree (steps v.image a ts) (steps v.image b ts)
  agree_on a b ts told g = schedules_agree v.image handled named live asked ground.closed ts a b told g

  -- Ends of worlds that agree.

  end_over : (a b : World) → TellsHandlers handled a → Agree a b → IsEnd v.image a → IsEnd v.image b
  end_over a b told g end = by (agreeing_end_alike v.image handled named live asked ground.closed a b told g) end where
    by : EndAlike v.image a b → IsEnd v.image a → IsEnd v.image b
    by alike (inl finished) = inl (λ some. finished (some.0, sym (alike.run some.0) ∙ some.1))
    by alike (inr still) = inr ((alike.kinds kind.Deadlock).0 still)

  pub can_over : (a b : World) → AllTold a → Agree a b → CanEnd v.image a → CanEnd v.image b
  can_over a b told g can =
      (can.0, end_over (steps v.image a can.0) (steps v.image b can.0) (told can.0) (agree_on a b can.0 told g) can.1)

  -- worlds that agree still do after the same schedule, wherever one that was found leads
  pub moves_on : (k : ℕ) → k < v.count → MovesOn Agree v.image (v.world k)
  moves_on k below us x ts =
      agree_on (steps v.image (v.world k) us) x ts (told_on (v.world k) us (ground.told k below))

  -- One step more in front.

  over : (k : ℕ) (t : Step) (us : List Step) (e : IsTaken Agree v k t)
      → Agree (steps v.image (v.world e.to) us) (steps v.image (after v.image (v.world k) t) us)
  over k t us e =
      agree_on (v.world e.to) (after v.image (v.world k) t) us (ground.told e.to e.within) e.leads

  reached_on : (k : ℕ) (t : Step) (ts us : List Step) (e : IsTaken Agree v k t) → length ts ≡ suc (length us)
      → Agree (steps v.image (after v.image (v.world k) t) us) (steps v.image (v.world k) ts)
      → IsReached Agree v e.to us → IsReached Agree v k ts
  reached_on k t ts us e one_less leads r = record {
    place = r.place;
    below = r.below;
    stands =
        agree_next named live asked (v.world r.place) (steps v.image (after v.image (v.world k) t) us)
        (steps v.image (v.world k) ts)
        (agree_next named live asked (v.world r.place) (steps v.image (v.world e.to) us)
        (steps v.image (after v.image (v.world k) t) us) r.stands (over k t us e))
        leads;
    short = omega (arith, r.short, e.near, one_less);
  }

  pub end_on : (k : ℕ) (t : Step) (ts us : List Step) (e : IsTaken Agree v k t) → k < v.count
      → Agree (steps v.image (after v.image (v.world k) t) us) (steps v.image (v.world k) ts)
      → IsEnd v.image (steps v.image (v.world k) ts) → IsEnd v.image (steps v.image (v.world e.to) us)
  end_on k t ts us e below leads end =
      let there = steps v.image (after v.image (v.world k) t) us in
      let here = steps v.image (v.world k) ts in
      end_over there (steps v.image (v.world e.to) us) (ground.told k below (t ∷ us))
      (agree_back named live asked (steps v.image (v.world e.to) us) there (over k t us e))
      (end_over here there (ground.told k below ts) (agree_back named live asked there here leads) end)

  can_on : (k : ℕ) (t : Step) (us : List Step) (e : IsTaken Agree v k t) → CanEnd v.image (steps v.image (v.world e.to) us)
      → CanEnd v.image (steps v.image (after v.image (v.world k) t) us)
  can_on k t us e can =
      can_over (steps v.image (v.world e.to) us) (steps v.image (after v.image (v.world k) t) us)
      (told_on (v.world e.to) us (ground.told e.to e.within)) (over k t us e) can

  itself : (k : ℕ) → k < v.count → IsReached Agree v k []
  itself k below =
      record { place = k; below = below; stands = agree_itself named live asked (v.world k); short = omega arith }

  -- Where all steps are taken.

  all_reached : AllExpanded Agree v → (ts : List Step) (k : ℕ) → k < v.count → IsReached Agree v k ts
  all_reached all [] k below = itself k below
  all_reached all (t ∷ ts) k below =
      let e = all k below t in
      reached_on k t (t ∷ ts) ts e refl (agree_itself named live asked (steps v.image (v.world k) (t ∷ ts)))
      (all_reached all ts e.to e.within)

  pub has_all_worlds : AllExpanded Agree v → HasAllWorlds Agree v
  has_all_worlds all ts =
      let r = all_reached all ts 0 ground.some in
      record { place = r.place; below = r.below; stands = r.stands; short = r.short }

  -- Where those of a set may be taken before all others.

  module _ (all : AllFollowed Agree v) where
    reached : (n k : ℕ) (ts : List Step) → length ts ≤ n → k < v.count → IsEnd v.image (steps v.image (v.world k) ts)
        → IsReached Agree v k ts
    reached n k [] few below end = itself k below
    reached zero k (t ∷ ts) few below end = absurd (omega (arith, few))
    reached (suc n) k (t ∷ ts) few below end =
        elim (all k below) [
          | inl each ↦
              let same = agree_itself named live asked (steps v.image (v.world k) (t ∷ ts)) in
              reached_on k t (t ∷ ts) ts (each t) refl same
              (reached n (each t).to ts (omega (arith, few)) (each t).within (end_on k t (t ∷ ts) ts (each t) below same end))
          | inr some ↦
              let m = moved Agree v.image (v.world k) some.set some.first (moves_on k below) (t ∷ ts) end in
              let e = some.taken m.step m.there in
              reached_on k m.step (t ∷ ts) m.others e m.one_less m.leads
              (reached n e.to m.others (omega (arith, few, m.one_less)) e.within
              (end_on k m.step (t ∷ ts) m.others e below m.leads end))
        ]

    pub has_all_ends : HasAllEnds Agree v
    has_all_ends ts end =
        let r = reached (length ts) 0 ts (omega arith) ground.some end in
        record { place = r.place; below = r.below; stands = r.stands; short = r.short }

    pub has_shortest_ends : IsDistinct Agree v → HasShortestEnds Agree v
    has_shortest_ends distinct k below end ts g =
        let after_ts = steps v.image (v.world 0) ts in
        let r = reached (length ts) 0 ts (omega arith) ground.some
        (end_over (v.world k) after_ts (ground.told k below []) g end) in
        let same : r.place ≡ k =
        distinct r.place k r.below below
        (agree_next named live asked (v.world r.place) after_ts (v.world k) r.stands (agree_back named live asked (v.world k) after_ts g)) in
        subst (λ (j : ℕ). v.depth j ≤ v.depth 0 + length ts) same r.short

    -- from a place, by a schedule: what is known of each shorter schedule, and of the same one from where an end is nearer
    onward_by : (k : ℕ) (ts es : List Step) → k < v.count → IsExpanded Agree v k ⊎ IsTakenTogether Agree v k
        → (t : Step) (rest : List Step) → ts ≡ t ∷ rest → IsEnd v.image (steps v.image (v.world k) es)
        → ((j : ℕ) (us : List Step) → suc (length us) ≡ length ts → j < v.count
        → CanEnd v.image (steps v.image (v.world j) us))
        → ((j : ℕ) (us : List Step) → suc (length us) ≡ length es → j < v.count
        → IsEnd v.image (steps v.image (v.world j) us) → CanEnd v.image (steps v.image (v.world j) ts))
        → CanEnd v.image (steps v.image (v.world k) ts)
    onward_by k ts es below (inl each) t rest same end shorter nearer =
        let e = each t in
        subst (CanEnd v.image) (ap (steps v.image (v.world k)) (sym same))
        (can_on k t rest e (shorter e.to rest (sym (ap length same)) e.within))
    onward_by k ts es below (inr some) t rest same end shorter nearer =
        elim (moved_or_outside Agree v.image (v.world k) some.set some.first (moves_on k below) ts) [
          | inl on ↦
              let e = some.taken on.step on.there in
              can_over (steps v.image (after v.image (v.world k) on.step) on.others) (steps v.image (v.world k) ts)
              (told_on (v.world k) (on.step ∷ on.others) (ground.told k below)) on.leads
              (can_on k on.step on.others e (shorter e.to on.others (sym on.one_less) e.within))
          | inr out ↦
              let off = moved Agree v.image (v.world k) some.set some.first (moves_on k below) es end in
              let e = some.taken off.step off.there in
              let there = can_on k off.step ts e
              (nearer e.to off.others (sym off.one_less) e.within (end_on k off.step es off.others e below off.leads end)) in
              let behind =
              can_over (steps v.image (after v.image (v.world k) off.step) ts)
              (after v.image (steps v.image (v.world k) ts) off.step)
              (told_on (v.world k) (off.step ∷ ts) (ground.told k below)) (some.first.each off.step off.there ts out) there in
              (off.step ∷ behind.0, behind.1)
        ]

    onward : (n m k : ℕ) (ts es : List Step) → length ts ≤ n → length es ≤ m → k < v.count
        → ((j : ℕ) → j < v.count → CanEnd v.image (v.world j)) → IsEnd v.image (steps v.image (v.world k) es)
        → CanEnd v.image (steps v.image (v.world k) ts)
    onward n m k [] es few less below can end = (es, end)
    onward zero m k (t ∷ ts) es few less below can end = absurd (omega (arith, few))
    onward (suc n) zero k (t ∷ ts) es few less below can end =
        onward_by k (t ∷ ts) es below (all k below) t ts refl end
        (λ j us one_less there.
        let first = can j there in
        onward n (length first.0) j us first.0 (omega (arith, few, one_less)) (omega arith) there can first.1)
        (λ j us one_less there end. absurd (omega (arith, less, one_less)))
    onward (suc n) (suc m) k (t ∷ ts) es few less below can end =
        onward_by k (t ∷ ts) es below (all k below) t ts refl end
        (λ j us one_less there.
        let first = can j there in
        onward n (length first.0) j us first.0 (omega (arith, few, one_less)) (omega arith) there can first.1)
        (λ j us one_less there end.
        onward (suc n) m j (t ∷ ts) us few (omega (arith, less, one_less)) there can end)

    pub tells_whether_all_end : TellsWhetherAllEnd v
    tells_whether_all_end can ts =
        let first = can 0 ground.some in
        onward (length ts) (length first.0) 0 ts first.0 (omega arith) (omega arith) ground.some can first.1
