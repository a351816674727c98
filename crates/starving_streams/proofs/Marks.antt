-- Marks of the places at which a stream stands.
use Rattle.std.proofs.Common.{◌≡◌, ◌⊎◌, inl, inr, ℕ, zero, suc, ◌+◌, ◌<◌, refl, sym, ap, ◌∙◌, subst, arith, Bool, true, false}
use Rattle.std.proofs.Common.{List, [], ◌∷◌, ◌++◌, length, get_or, set, take, replicate, Contains}
use Rattle.std.specs.Prelude.{IsTrue}
use Rattle.std.proofs.lemmas.Bool.{cases_eq}
use Rattle.std.proofs.lemmas.List.{get_or-set_same, get_or-set_other, take_more, length-replicate}
use Rattle.std.proofs.lemmas.List.Elements.{Contains-append_left, Contains-push, Contains-push_cases}
use Rattle.processor.specs.declared.steps.Step.{Step}
use Rattle.schedule_space.specs.Spaces.{SpaceValue, count, world_of}
use Rattle.fair_rounds.specs.declared.graphs.Standing.{Standing}
use Rattle.fair_rounds.specs.Rounds.{IsIn}
use Rattle.claims.specs.declared.run_conditions.Rest.{Rest}
use Rattle.starving_streams.specs.Rests.{is_due}
use Rattle.starving_streams.specs.Graphs.{Stands, AreDues, AreMarksBy, AreMarksOf, IsMarkedBy}

-- One standing more.

-- one that is of the stream was marked
pub set_marked : (marks : List Bool) (s : Standing) (who : Step) (k : ℕ) → s.place < length marks → s.step.p ≡ who.p
    → s.step.s ≡ who.s → IsMarkedBy s who k (get_or marks k false) (get_or (set marks s.place true) k false)
set_marked marks s who k below p q = by_case (cases_eq s.place k) where
  by_case : (s.place ≡ k) ⊎ (s.place ≡ k → ⊥)
      → IsMarkedBy s who k (get_or marks k false) (get_or (set marks s.place true) k false)
  by_case (inl same) =
      inl (
        same,
        λ i. record { p = p i; s = q i },
        ap (λ (n : ℕ). get_or (set marks s.place true) n false) (sym same)
            ∙ get_or-set_same marks s.place true false below,
      )
  by_case (inr other) =
      inr (get_or-set_other marks s.place k true false (λ same. other (sym same)), λ same own. other same)

-- one that is not, was not
pub not_marked : (s : Standing) (who : Step) (n k : ℕ) (b : Bool)
    → (s.place < n → s.step.p ≡ who.p → s.step.s ≡ who.s → ⊥) → k < n → IsMarkedBy s who k b b
not_marked s who n k b never below =
    inr (
      refl,
      λ same own.
          never (omega (arith, below, same)) (ap (λ (t : Step). t.p) own) (ap (λ (t : Step). t.s) own),
    )

-- before the first
none_marked : (n k : ℕ) → get_or (replicate n false) k false ≡ true → ⊥
none_marked zero k there = let off : ⊥ = cc in off
none_marked (suc n) zero there = let off : ⊥ = cc in off
none_marked (suc n) (suc k) there = none_marked n k there

pub marks_none : (count : ℕ) (who : Step) (marks : List Bool) → marks ≡ replicate count false → AreMarksBy [] count who marks
marks_none count who marks is = record {
  many = ap length is ∙ length-replicate count false;
  sound = λ k below there.
      absurd (none_marked count k (ap (λ (bs : List Bool). get_or bs k false) (sym is) ∙ there));
  all = λ s there own fits. absurd (let below = there.1 in omega (arith, below));
}

pub marks_next : (count i : ℕ) (standings : List Standing) (who : Step) (old new : List Bool) (d : Standing)
    → i < length standings → AreMarksBy (take i standings) count who old → length new ≡ length old
    → ((k : ℕ) → k < length old
    → IsMarkedBy (get_or standings i d) who k (get_or old k false) (get_or new k false))
    → AreMarksBy (take (i + 1) standings) count who new
marks_next count i standings who old new d below are many marked =
    subst (λ (xs : List Standing). AreMarksBy xs count who new) (sym (take_more standings i d below)) (record {
      many = many ∙ are.many;
      sound = sound;
      all = all;
    }) where
      s : Standing
      s = get_or standings i d

      before : List Standing
      before = take i standings

      sound : (k : ℕ) → k < count → IsIn new k → Stands (before ++ s ∷ []) k who
      sound k within there = elim (marked k (omega (arith, within, are.many))) [
        | inl here ↦ (s, Contains-push before s, here.0, here.1)
        | inr kept ↦
            let was = are.sound k within (sym kept.0 ∙ there) in
            (was.0, Contains-append_left before (s ∷ []) was.0 was.1, was.2, was.3)
      ]

      all : (x : Standing) → Contains (before ++ s ∷ []) x → x.step ≡ who → x.place < count → IsIn new x.place
      all x there own fits = elim (marked x.place (omega (arith, fits, are.many))) [
        | inl here ↦ here.2
        | inr kept ↦ elim (Contains-push_cases before s x there) [
          | inl was ↦ kept.0 ∙ are.all x was own fits
          | inr same ↦
              absurd (kept.1 (ap (λ (y : Standing). y.place) same) (ap (λ (y : Standing). y.step) same ∙ own))
        ]
      ]

-- by all dues of a space they are those of the places at which steps of the stream are due
pub marks_of : (v : SpaceValue) (rests : List Rest) (dues : List Standing) (who : Step) (marks : List Bool)
    → AreDues v rests (count v) dues → AreMarksBy dues (count v) who marks → AreMarksOf v rests who marks
marks_of v rests dues who marks are by = record {
  each = by.many;
  sound = λ k below marked.
      let s = by.sound k below marked in
      let stand = are.sound s.0 s.1 in
      subst (λ (n : ℕ). IsTrue (is_due rests (world_of v n) who)) s.2
      (subst (λ (t : Step). IsTrue (is_due rests (world_of v s.0.place) t)) s.3 stand.due);
  all = λ k below due.
      let s = are.all k who below due in
      subst (IsIn marks) s.2 (by.all s.0 s.1 s.3 (omega (arith, s.2, below)));
}
