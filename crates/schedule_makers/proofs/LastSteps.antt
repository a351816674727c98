-- The last step of each processor, over one more step.
use Rattle.std.proofs.Common.{◌≡◌, ℕ, ◌<◌, ◌==◌, true, false, sym, ap, ◌∙◌, subst, arith, inl, inr}
use Rattle.std.proofs.Common.{cond, set, get_or, List, [], ◌∷◌, ◌++◌, length, Option, Some, None, append-nil, replicate}
use Rattle.std.proofs.lemmas.Bool.Decides.{eqb_tells}
use Rattle.std.proofs.lemmas.List.{length-set, get_or-set_same, get_or-set_other, length-replicate, get_or-replicate}
use Rattle.std.proofs.lemmas.List.Elements.{filter-append}
use Rattle.processor.specs.declared.steps.Step.{Step}
use Rattle.schedule_makers.specs.Rules.{last_step, of_processor}
use Rattle.schedule_makers.specs.Fair.{AreLast}
use Rattle.schedule_makers.proofs.Lists.{last-push}

-- the steps of a processor after one more of its own, or of another
more-own : (p : ℕ) (before : List Step) (t : Step) → (t.p == p) ≡ true
    → last_step (of_processor p (before ++ t ∷ [])) ≡ Some t
more-own p before t own =
    ap last_step (filter-append (λ (u : Step). u.p == p) before (t ∷ [])
    ∙ ap (λ b. of_processor p before ++ cond b (t ∷ []) []) own)
    ∙ last-push (of_processor p before) t

more-other : (p : ℕ) (before : List Step) (t : Step) → (t.p == p) ≡ false
    → last_step (of_processor p (before ++ t ∷ [])) ≡ last_step (of_processor p before)
more-other p before t other =
    ap last_step (filter-append (λ (u : Step). u.p == p) before (t ∷ [])
    ∙ ap (λ b. of_processor p before ++ cond b (t ∷ []) []) other
    ∙ append-nil (of_processor p before))

last-more : (lasts : List (Option Step)) (before : List Step) (t : Step) (p : ℕ) → t.p < length lasts
    → get_or lasts p None ≡ last_step (of_processor p before)
    → get_or (set lasts t.p (Some t)) p None ≡ last_step (of_processor p (before ++ t ∷ []))
last-more lasts before t p within was = elim (eqb_tells t.p p) [
  | inl same ↦
      ap (λ k. get_or (set lasts t.p (Some t)) k None) (sym same.1)
      ∙ get_or-set_same lasts t.p (Some t) None within
      ∙ sym (more-own p before t same.0)
  | inr other ↦
      get_or-set_other lasts t.p p (Some t) None (λ e. other.1 (sym e)) ∙ was ∙ sym (more-other p before t other.0)
]

pub are-last-more : (lasts : List (Option Step)) (before : List Step) (t : Step) (place : ℕ) → place ≡ t.p
    → place < 256 → AreLast lasts before → AreLast (set lasts place (Some t)) (before ++ t ∷ [])
are-last-more lasts before t place is small h =
    let within : t.p < length lasts = omega (arith, h.room) in
    let P : ℕ → Type 0 = λ k. AreLast (set lasts k (Some t)) (before ++ t ∷ []) in
    subst P (sym is) (record {
      room = length-set lasts t.p (Some t) ∙ h.room;
      each = λ p below. last-more lasts before t p within (h.each p below);
    })

pub none-last : AreLast (replicate 256 None) []
none-last = record {
  room = length-replicate {A = Option Step} 256 None;
  each = λ p below. get_or-replicate 256 p None None below;
}
