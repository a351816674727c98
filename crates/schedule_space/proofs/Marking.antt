-- Marks of the worlds from which an end can be reached.
use Rattle.std.proofs.Common.{◌≡◌, ◌≢◌, ℕ, zero, suc, ◌+◌, ◌<◌, ◌≤◌, refl, sym, ap, ◌∙◌, subst, arith, List, [], ◌∷◌, ◌++◌}
use Rattle.std.proofs.Common.{◌⊎◌, inl, inr, ◌-◌, length, get_or, set, take, drop, length-set, append-nil, append_assoc}
use Rattle.std.proofs.Common.{Bool, true, false}
use Rattle.std.specs.Prelude.{IsTrue, ◌↔◌}
use Rattle.std.specs.List.{Contains}
use Rattle.std.proofs.lemmas.Bool.{cases_lt}
use Rattle.std.proofs.lemmas.List.{get_or_append_left, take_all}
use Rattle.std.proofs.lemmas.List.Elements.{Contains-get_or}
use Rattle.std.proofs.Math.ListN.{drop_of_length-le}
use Rattle.std.proofs.Math.Seq.{get_or-append_seam}
use Rattle.image_file.specs.ImageValue.{ImageValue}
use Rattle.processor.specs.World.{World, after, run, steps}
use Rattle.processor.specs.declared.steps.Step.{Step}
use Rattle.agreeing_ends.specs.SameFutures.Handlers.{may_have_handlers}
use Rattle.world_keys.specs.DeadRegisters.Clearing.{IsLive}
use Rattle.agreeing_ends.proofs.Reached.{can_over}
use Rattle.schedule_space.specs.declared.links.Edge.{Edge}
use Rattle.schedule_space.specs.Spaces.{SpaceValue, count, schedule_of, world_of, Has, HasEarlierLinks, IsComplete, IsEdgeToStandIn, HasAllEdges}
use Rattle.schedule_space.specs.declared.fates.Fate.{Fate}
use Rattle.schedule_space.specs.declared.fates.Fate.TheVariants as fate
use Rattle.schedule_space.specs.Fates.{IsFate, is_end}
use Rattle.schedule_space.specs.Reaching.{IsEnd, CanEnd, IsMarked, AreEnds, CanAllEnd, AreMarkedBack}
use Rattle.schedule_space.specs.Reaching.{HasEndsMarked, marked}
use Rattle.schedule_space.specs.Finding.{found_in}
use Rattle.schedule_space.proofs.Schedules.{goes_on, run-push}
use Rattle.schedule_space.proofs.Agreeing.{Named, Live, Asked, ground}

-- from where an edge leads to a world that can end
pub can_end_before : (v : SpaceValue) (e : Edge) → IsLive v.image v.live → IsEdgeToStandIn v e
    → CanEnd v.image (world_of v e.to) → CanEnd v.image (world_of v e.from)
can_end_before v e live is can =
    let g = ground v live in
    let next =
    can_over (IsTrue (may_have_handlers v.image)) (Named v.live) (Live v.live) (Asked v.live) (found_in v) g (world_of v e.to)
    (after v.image (world_of v e.from) e.step) (g.told e.to is.to) is.leads can in
    (e.step ∷ next.0, next.1)

-- Marks.

-- one mark more
pub marked_at : (marks : List Bool) (n k : ℕ) → IsMarked (set marks n true) k → IsMarked marks k ⊎ (k ≡ n)
marked_at [] n k is = inl is
marked_at (b ∷ bs) zero zero is = inr refl
marked_at (b ∷ bs) zero (suc k) is = inl is
marked_at (b ∷ bs) (suc n) zero is = inl is
marked_at (b ∷ bs) (suc n) (suc k) is =
    elim (marked_at bs n k is) [
      | inl before ↦ inl before
      | inr same ↦ inr (ap (λ i. suc i) same)
    ]

pub marked_too : (marks : List Bool) (n k : ℕ) → IsMarked marks k → IsMarked (set marks n true) k
marked_too [] n k is = is
marked_too (b ∷ bs) zero zero is = refl
marked_too (b ∷ bs) zero (suc k) is = is
marked_too (b ∷ bs) (suc n) zero is = is
marked_too (b ∷ bs) (suc n) (suc k) is = marked_too bs n k is

pub can_more : (v : SpaceValue) (marks : List Bool) (e : Edge) → IsLive v.image v.live → CanAllEnd v marks
    → IsEdgeToStandIn v e → IsMarked marks e.to → CanAllEnd v (set marks e.from true)
can_more v marks e live all is to = record {
  each = length-set marks e.from true ∙ all.each;
  ends = λ k below mark. by_case k below (marked_at marks e.from k mark);
} where
  by_case : (k : ℕ) → k < count v → IsMarked marks k ⊎ (k ≡ e.from) → CanEnd v.image (world_of v k)
  by_case k below (inl before) = all.ends k below before
  by_case k below (inr same) =
      subst (λ (n : ℕ). CanEnd v.image (world_of v n)) (sym same) (can_end_before v e live is (all.ends e.to is.to to))

pub marked_more : (marks : List Bool) (n : ℕ) (d : Bool) → n < length marks → get_or marks n d ≡ false
    → marked (set marks n true) ≡ suc (marked marks)
marked_more [] n d below off = absurd (omega arith)
marked_more (true ∷ bs) zero d below off = absurd cc
marked_more (false ∷ bs) zero d below off = refl
marked_more (true ∷ bs) (suc n) d below off = ap (λ k. suc k) (marked_more bs n d (omega (arith, below)) off)
marked_more (false ∷ bs) (suc n) d below off = marked_more bs n d (omega (arith, below)) off

pub few_marked : (marks : List Bool) → marked marks ≤ length marks
few_marked [] = omega arith
few_marked (true ∷ bs) = let rest = few_marked bs in omega (arith, rest)
few_marked (false ∷ bs) = let rest = few_marked bs in omega (arith, rest)

-- where as many are marked as there are, all are
pub all_marked : (marks : List Bool) (k : ℕ) → length marks ≤ marked marks → k < length marks → IsMarked marks k
all_marked [] k many below = absurd (omega arith)
all_marked (true ∷ bs) zero many below = refl
all_marked (true ∷ bs) (suc k) many below = all_marked bs k (omega (arith, many)) (omega (arith, below))
all_marked (false ∷ bs) k many below = let few = few_marked bs in absurd (omega (arith, many, few))

-- marks that are written back over those that were there
pub written : (old new : List Bool) (n : ℕ) → length old ≡ n → length new ≡ n
    → take n (new ++ drop (length new) old) ≡ new
written old new n many same =
    ap (λ bs. take n (new ++ bs)) (drop_of_length-le old (omega (arith, many, same)))
    ∙ ap (take n) (append-nil new)
    ∙ take_all n new (omega (arith, same))

-- The edges, from the last one on.

-- the edge where there is none
abbrev pub no_edge : Edge
no_edge = record { from = 0; step = record { p = 0; s = 0 }; to = 0 }

-- the edge at a place of the list is one of the space
pub edge_at : (v : SpaceValue) (es : List Edge) (n : ℕ) → es ≡ v.edges → ((e : Edge) → Contains v.edges e → IsEdgeToStandIn v e)
    → n < length es → IsEdgeToStandIn v (get_or es n no_edge)
edge_at v es n same each below =
    each (get_or es n no_edge)
    (subst (λ (xs : List Edge). Contains xs (get_or es n no_edge)) same (Contains-get_or es n no_edge below))

any_default : (es : List Edge) (n : ℕ) (c d : Edge) → n < length es → get_or es n c ≡ get_or es n d
any_default [] n c d below = absurd (omega arith)
any_default (e ∷ es) zero c d below = refl
any_default (e ∷ es) (suc n) c d below = any_default es n c d (omega (arith, below))

-- where the edge leads to a marked world, the one that it leads from is marked
abbrev pub IsMarkedBack : List Bool → Edge → Type 0
IsMarkedBack marks e = IsMarked marks e.to → IsMarked marks e.from

-- the same of each edge from this place on
abbrev pub AreMarkedBackFrom : List Bool → List Edge → ℕ → Type 0
AreMarkedBackFrom marks es n = (j : ℕ) (d : Edge) → n ≤ j → j < length es → IsMarkedBack marks (get_or es j d)

pub back_more : (marks : List Bool) (es : List Edge) (n : ℕ) → 0 < n → AreMarkedBackFrom marks es n
    → IsMarkedBack marks (get_or es (n - 1) no_edge) → AreMarkedBackFrom marks es (n - 1)
back_more marks es n some all first j d low below = by_case (cases_lt j n) where
  by_case : (j < n) ⊎ (n ≤ j) → IsMarkedBack marks (get_or es j d)
  by_case (inr past) = all j d past below
  by_case (inl less) =
      let same : n - 1 ≡ j = omega (arith, some, less, low) in
      subst (IsMarkedBack marks) (any_default es j no_edge d below)
      (subst (λ (k : ℕ). IsMarkedBack marks (get_or es k no_edge)) same first)

-- where all edges were looked at
pub back_all : (v : SpaceValue) (es : List Edge) (marks : List Bool) → es ≡ v.edges → AreMarkedBackFrom marks es 0
    → AreMarkedBack v marks
back_all v es marks same all e has =
    let has_too : Contains es e = subst (λ (xs : List Edge). Contains xs e) (sym same) has in
    subst (IsMarkedBack marks) has_too.2 (all has_too.0 e (omega arith) has_too.1)

-- The ends of a space.

pub ends_more : (v : SpaceValue) (marks more : List Bool) (n : ℕ) (b : Bool) → length marks ≡ n
    → ((k : ℕ) → k < n → IsMarked marks k ↔ IsEnd v.image (world_of v k))
    → (IsTrue b ↔ IsEnd v.image (world_of v n)) → more ≡ marks ++ b ∷ []
    → (k : ℕ) → k < n + 1 → IsMarked more k ↔ IsEnd v.image (world_of v k)
ends_more v marks more n b many all last pushed k below = by_case (cases_lt k n) where
  Is : Bool → ℕ → Type 0
  Is c j = IsTrue c ↔ IsEnd v.image (world_of v j)

  by_case : (k < n) ⊎ (n ≤ k) → Is (get_or more k false) k
  by_case (inl less) =
      subst (λ (c : Bool). Is c k)
      (sym (ap (λ bs. get_or bs k false) pushed
      ∙ get_or_append_left marks (b ∷ []) false k (omega (arith, less, many)))) (all k less)
  by_case (inr past) =
      let same : n ≡ k = omega (arith, past, below) in
      let at : get_or more n false ≡ b =
      ap (λ bs. get_or bs n false) pushed
      ∙ ap (λ j. get_or (marks ++ b ∷ []) j false) (sym many)
      ∙ get_or-append_seam marks b [] false in
      subst (λ (j : ℕ). Is (get_or more j false) j) same (subst (λ (c : Bool). Is c n) (sym at) last)

-- whether a world is an end, by its fate
pub fate_end : (image : ImageValue) (w : World) (f : Fate) → IsFate image w f → IsTrue (is_end f) ↔ IsEnd image w
fate_end image w fate.Finished is = (λ _. inl is, λ _. refl)
fate_end image w fate.Deadlock is = (λ _. inr is, λ _. refl)
fate_end image w fate.GoesOn is = (λ on. absurd cc, λ end. absurd (neither end)) where
  neither : IsEnd image w → ⊥
  neither (inl finished) = finished is.0
  neither (inr still) = is.1 still

pub ends_can : (v : SpaceValue) (marks : List Bool) → AreEnds v marks → CanAllEnd v marks
ends_can v marks ends = record {
  each = ends.each;
  ends = λ k below mark. ([], (ends.ends k below).0 mark);
}

-- Where nothing is left to mark, each world that can end is marked.

same_or_not : (j k : ℕ) → (j ≡ k) ⊎ (j ≢ k)
same_or_not j k =
    elim (cases_lt j k) [
      | inl less ↦ inr (λ same. omega (arith, less, same))
      | inr past ↦
          elim (cases_lt k j) [
            | inl more ↦ inr (λ same. omega (arith, more, same))
            | inr both ↦ inl (omega (arith, past, both))
          ]
    ]

-- a step from a world of a complete space leads to one of it
next_place : (v : SpaceValue) → IsComplete v → HasEarlierLinks v → (k : ℕ) → k < count v → (t : Step)
    → Has v (after v.image (world_of v k) t)
next_place v complete earlier k below t =
    let on = goes_on v.begin v.links k k earlier (omega arith) (omega (arith, below)) in
    let next = complete (on.0 ++ t ∷ []) in (
      next.0,
      next.1,
      next.2
          ∙ ap (run v.image) (sym (append_assoc v.begin on.0 (t ∷ [])))
          ∙ ap (λ xs. run v.image (xs ++ t ∷ [])) (sym on.1)
          ∙ run-push v.image (schedule_of v k) t,
    )

pub all_can_by : (v : SpaceValue) (marks : List Bool) → IsComplete v → HasEarlierLinks v → HasAllEdges v
    → HasEndsMarked v marks → AreMarkedBack v marks → (k : ℕ) → k < count v → (ts : List Step)
    → IsEnd v.image (steps v.image (world_of v k) ts) → IsMarked marks k
all_can_by v marks complete earlier edges ends back k below [] is = ends k below is
all_can_by v marks complete earlier edges ends back k below (t ∷ ts) is =
    let next = next_place v complete earlier k below t in
    let leads : world_of v next.0 ≡ after v.image (world_of v k) t = next.2 in
    let there : IsMarked marks next.0 =
    all_can_by v marks complete earlier edges ends back next.0 next.1 ts
    (subst (λ (w : World). IsEnd v.image (steps v.image w ts)) (sym leads) is) in
    let e : Edge = record { from = k; step = t; to = next.0 } in
    elim (same_or_not next.0 k) [
      | inl same ↦ subst (IsMarked marks) same there
      | inr apart ↦
          back e ((edges e).1 (record { from = below; to = next.1; apart = apart; leads = leads })) there
    ]

pub all_can : (v : SpaceValue) (marks : List Bool) → IsComplete v → HasEarlierLinks v → HasAllEdges v
    → HasEndsMarked v marks → AreMarkedBack v marks → (k : ℕ) → k < count v → CanEnd v.image (world_of v k)
    → IsMarked marks k
all_can v marks complete earlier edges ends back k below can =
    all_can_by v marks complete earlier edges ends back k below can.0 can.1
