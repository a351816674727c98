-- Where the steps of a stream lead.
use Rattle.std.proofs.Common.{◌≡◌, ℕ, ◌+◌, ◌<◌, ◌⊎◌, inl, inr, refl, sym, ap, ◌∙◌, subst, arith}
use Rattle.std.proofs.Common.{◌≤◌, List, [], ◌∷◌, ◌++◌, length, length-append, get_or, set, take, append_assoc}
use Rattle.std.specs.Prelude.{slice_index_or}
use Rattle.std.specs.List.{Contains}
use Rattle.std.proofs.lemmas.Bool.{cases_eq, cases_lt}
use Rattle.std.proofs.lemmas.List.{get_or-set_same, get_or-set_other, get_or_default, take_more, get_or_append_left, get_or_push}
use Rattle.std.proofs.lemmas.List.Elements.{Contains-append_left, Contains-push, Contains-push_cases}
use Rattle.processor.specs.World.{after, run}
use Rattle.processor.specs.declared.steps.Step.{Step}
use Rattle.schedule_space.specs.declared.links.Edge.{Edge}
use Rattle.schedule_space.specs.Spaces.{SpaceValue, count, schedule_of, world_of, Has, HasEarlierLinks, IsComplete, IsEdge, HasAllEdges}
use Rattle.schedule_space.proofs.Schedules.{goes_on, run-push}
use Rattle.starving_streams.specs.Graphs.{link_by, IsTarget, AreTargets, ArePlaces, IsFollowed}

-- One place more.

-- what is so of each number of a list, of one more
numbers_more : (P : ℕ → ℕ → Type 0) (xs : List ℕ) (n y : ℕ) → length xs ≡ n
    → ((k : ℕ) → k < n → P k (get_or xs k 0)) → P n y → (k : ℕ) → k < n + 1 → P k (get_or (xs ++ y ∷ []) k 0)
numbers_more P xs n y many all here k below = by_case (cases_lt k n) where
  by_case : (k < n) ⊎ (n ≤ k) → P k (get_or (xs ++ y ∷ []) k 0)
  by_case (inl before) =
      subst (P k) (sym (get_or_append_left xs (y ∷ []) 0 k (omega (arith, before, many)))) (all k before)
  by_case (inr behind) =
      let same : n ≡ k = omega (arith, below, behind) in
      subst (λ (j : ℕ). P j (get_or (xs ++ y ∷ []) j 0)) same (subst (P n) (sym (get_or_push xs y 0 n many)) here)

longer : {X : Type 0} (xs : List X) (y : X) (n : ℕ) → length xs ≡ n → length (xs ++ y ∷ []) ≡ n + 1
longer xs y n many = let more = length-append xs (y ∷ []) in omega (arith, more, many)

-- one place more
pub places_more : (n m : ℕ) (xs : List ℕ) → ArePlaces n xs → m ≡ n → ArePlaces (n + 1) (xs ++ m ∷ [])
places_more n m xs are same = record {
  many = longer xs m n are.many;
  each = numbers_more (λ k x. x ≡ k) xs n m are.many are.each same;
}

-- One edge more.

-- an edge that is of the place and the stream was put
pub set_followed : (targets : List ℕ) (e : Edge) (t : Step) (k : ℕ) → e.from < length targets → e.step.p ≡ t.p
    → e.step.s ≡ t.s → IsFollowed e t k (get_or targets k 0) (get_or (set targets e.from e.to) k 0)
set_followed targets e t k below p s = by_case (cases_eq e.from k) where
  by_case : (e.from ≡ k) ⊎ (e.from ≡ k → ⊥)
      → IsFollowed e t k (get_or targets k 0) (get_or (set targets e.from e.to) k 0)
  by_case (inl same) =
      let at : e.to ≡ get_or (set targets e.from e.to) k 0 =
      sym (get_or-set_same targets e.from e.to 0 below) ∙ ap (λ (n : ℕ). get_or (set targets e.from e.to) n 0) same in
      inl (λ i. record { from = same i; step = record { p = p i; s = s i }; to = at i })
  by_case (inr other) =
      inr (
        get_or-set_other targets e.from k e.to 0 (λ same. other (sym same)),
        λ j is. other (ap (λ (d : Edge). d.from) is),
      )

-- an edge that is not, was not
pub not_followed : (e : Edge) (t : Step) (n k x : ℕ) → (e.from < n → e.step.p ≡ t.p → e.step.s ≡ t.s → ⊥) → k < n
    → IsFollowed e t k x x
not_followed e t n k x never below =
    inr (
      refl,
      λ j is.
          never (omega (arith, below, ap (λ (d : Edge). d.from) is)) (ap (λ (d : Edge). d.step.p) is)
          (ap (λ (d : Edge). d.step.s) is),
    )

pub target_more : (xs : List Edge) (e : Edge) (t : Step) (k old new : ℕ) → IsTarget xs t k old
    → IsFollowed e t k old new → IsTarget (xs ++ e ∷ []) t k new
target_more xs e t k old new target (inl is) =
    inl (subst (Contains (xs ++ e ∷ [])) is (Contains-push xs e))
target_more xs e t k old new (inl has) (inr kept) =
    inl
    (subst (λ (n : ℕ). Contains (xs ++ e ∷ []) (link_by t k n)) (sym kept.0)
    (Contains-append_left xs (e ∷ []) (link_by t k old) has))
target_more xs e t k old new (inr stays) (inr kept) = inr (kept.0 ∙ stays.0, none) where
  none : (j : ℕ) → Contains (xs ++ e ∷ []) (link_by t k j) → ⊥
  none j has =
      elim (Contains-push_cases xs e (link_by t k j) has) [
        | inl before ↦ stays.1 j before
        | inr is ↦ kept.1 j is
      ]

pub targets_more : (n i : ℕ) (edges : List Edge) (t : Step) (old new : List ℕ) (e : Edge) → i < length edges
    → e ≡ get_or edges i e → AreTargets n (take i edges) t old → length new ≡ length old
    → ((k : ℕ) → k < length old → IsFollowed e t k (get_or old k 0) (get_or new k 0))
    → AreTargets n (take (i + 1) edges) t new
targets_more n i edges t old new e below read are many followed =
    let more : take i edges ++ e ∷ [] ≡ take (i + 1) edges =
    ap (λ (d : Edge). take i edges ++ d ∷ []) read ∙ sym (take_more edges i e below) in
    subst (λ (xs : List Edge). AreTargets n xs t new) more (record {
      many = many ∙ are.many;
      each = λ k less.
          target_more (take i edges) e t k (get_or old k 0) (get_or new k 0) (are.each k less)
          (followed k (omega (arith, less, are.many)));
    })

-- the same of the edge at a place
pub targets_next : (n i : ℕ) (edges : List Edge) (t : Step) (old new : List ℕ) (d : Edge) → i < length edges
    → AreTargets n (take i edges) t old → length new ≡ length old
    → ((k : ℕ) → k < length old → IsFollowed (get_or edges i d) t k (get_or old k 0) (get_or new k 0))
    → AreTargets n (take (i + 1) edges) t new
targets_next n i edges t old new d below =
    targets_more n i edges t old new (get_or edges i d) below (get_or_default edges i d (get_or edges i d) below)

-- before the first edge
pub targets_none : (n : ℕ) (t : Step) (places : List ℕ) → ArePlaces n places → AreTargets n [] t places
targets_none n t places are = record {
  many = are.many;
  each = λ k below. inr (are.each k below, λ j has. absurd (omega (arith, has.1)));
}

-- Of a complete space.

-- the step of a stream leads from the world at a place to that at the other, which is the same if it changes nothing
pub record IsLedTo (v : SpaceValue) (k : ℕ) (t : Step) (to : ℕ) : Type 0 where
  pub there : to < count v
  pub leads : world_of v to ≡ after v.image (world_of v k) t

pub target_leads : (v : SpaceValue) (t : Step) (targets : List ℕ) (k : ℕ) → HasEarlierLinks v → IsComplete v
    → HasAllEdges v → AreTargets (count v) v.edges t targets → k < count v → IsLedTo v k t (slice_index_or targets k 0)
target_leads v t targets k earlier complete edges are below = by_target (get_or targets k 0) (are.each k below) where
  begun : (more : List Step) × (schedule_of v k ≡ v.begin ++ more)
  begun = goes_on v.begin v.links (length v.links) k earlier (omega (arith, below)) (omega (arith, below))

  steps_on : run v.image (v.begin ++ (begun.0 ++ t ∷ [])) ≡ after v.image (world_of v k) t
  steps_on =
      ap (run v.image) (sym (append_assoc v.begin begun.0 (t ∷ [])))
      ∙ run-push v.image (v.begin ++ begun.0) t
      ∙ ap (λ (ts : List Step). after v.image (run v.image ts) t) (sym begun.1)

  by_target : (to : ℕ) → IsTarget v.edges t k to → IsLedTo v k t to
  by_target to (inl has) =
      let is : IsEdge v (link_by t k to) = (edges (link_by t k to)).0 has in record { there = is.to; leads = is.leads }
  by_target to (inr stays) = by_place (cases_eq j k) where
    found : Has v (run v.image (v.begin ++ (begun.0 ++ t ∷ [])))
    found = complete (begun.0 ++ t ∷ [])

    j : ℕ
    j = found.0

    leads : world_of v j ≡ after v.image (world_of v k) t
    leads = found.2 ∙ steps_on

    by_place : (j ≡ k) ⊎ (j ≡ k → ⊥) → IsLedTo v k t to
    by_place (inl same) = record {
      there = omega (arith, stays.0, below);
      leads = ap (world_of v) (stays.0 ∙ sym same) ∙ leads;
    }
    by_place (inr other) =
        let edge : IsEdge v (link_by t k j) = record { from = below; to = found.1; apart = other; leads = leads } in
        absurd (stays.1 j ((edges (link_by t k j)).1 edge))
