-- What is selected from a list, one by one.
use Rattle.std.proofs.Common.{◌≡◌, ◌<◌, ◌+◌, ℕ, refl, sym, ap, ◌∙◌, subst, List, [], ◌∷◌, ◌++◌, inl, inr}
use Rattle.std.proofs.Common.{length, get_or, take, map}
use Rattle.std.proofs.lemmas.List.{take_more, map-append}
use Rattle.std.proofs.lemmas.List.Elements.{All-push}
use Rattle.processor.specs.declared.steps.Step.{Step}
use Rattle.machine.specs.MachineValue.{MachineValue}
use Rattle.waiting.specs.Waits.{IsAskedInVain}
use Rattle.step_views.specs.declared.step_views.StepView.{StepView}
use Rattle.stream_waits.specs.declared.waits.StreamWait.{StreamWait}
use Rattle.stream_waits.specs.StreamWaits.{AreSelected, IsStreamWait, AreWaitsOf}

pub selected_more : (P : Step → Type 0) (xs ys : List Step) (x : Step) → P x → AreSelected P xs ys
    → AreSelected P (xs ++ x ∷ []) (ys ++ x ∷ [])
selected_more P [] ys x holds is = inr (holds, ([], ap (λ l. l ++ x ∷ []) is, refl))
selected_more P (z ∷ xs) ys x holds is = elim is [
  | inl left ↦ inl (left.0, selected_more P xs ys x holds left.1)
  | inr kept ↦
      inr (
        kept.0,
        (kept.1.0 ++ x ∷ [], ap (λ l. l ++ x ∷ []) kept.1.1, selected_more P xs kept.1.0 x holds kept.1.2),
      )
]

pub selected_same : (P : Step → Type 0) (xs ys : List Step) (x : Step) → ¬ (P x) → AreSelected P xs ys
    → AreSelected P (xs ++ x ∷ []) ys
selected_same P [] ys x fails is = inl (fails, is)
selected_same P (z ∷ xs) ys x fails is = elim is [
  | inl left ↦ inl (left.0, selected_same P xs ys x fails left.1)
  | inr kept ↦ inr (kept.0, (kept.1.0, kept.1.1, selected_same P xs kept.1.0 x fails kept.1.2))
]

-- One more stream was looked at.

pub one_waits : (m : MachineValue) (views : List StepView) (ts : List Step) (ws more : List StreamWait) (w : StreamWait)
    (n : ℕ) (d : Step) → n < length ts → AreWaitsOf m views (take n ts) ws
    → IsAskedInVain m (get_or ts n d) × IsStreamWait m views (get_or ts n d) w → more ≡ ws ++ w ∷ []
    → AreWaitsOf m views (take (n + 1) ts) more
one_waits m views ts ws more w n d within are told is =
    let stream : StreamWait → Step = λ x. x.stream in
    let P = IsAskedInVain m in
    let added = selected_more P (take n ts) (map stream ws) (get_or ts n d) told.0 are.selected in
    let last : map stream more ≡ map stream ws ++ get_or ts n d ∷ [] =
    ap (map stream) is ∙ map-append stream ws (w ∷ []) ∙ ap (λ x. map stream ws ++ x ∷ []) told.1.stream in
    let Told : StreamWait → Type 0 = λ x. IsStreamWait m views x.stream x in
    let own : Told w = subst (λ t. IsStreamWait m views t w) (sym told.1.stream) told.1 in
    record {
      selected = subst (λ ys. AreSelected P (take (n + 1) ts) ys) (sym last)
          (subst (λ xs. AreSelected P xs (map stream ws ++ get_or ts n d ∷ [])) (sym (take_more ts n d within)) added);
      each = subst (λ (l : List StreamWait).
          (k : ℕ) (e : StreamWait) → k < length l → Told (get_or l k e)) (sym is) (All-push Told ws w are.each own);
    }

pub none_waits : (m : MachineValue) (views : List StepView) (ts : List Step) (ws more : List StreamWait) (n : ℕ) (d : Step)
    → n < length ts → AreWaitsOf m views (take n ts) ws → ¬ (IsAskedInVain m (get_or ts n d)) → more ≡ ws
    → AreWaitsOf m views (take (n + 1) ts) more
none_waits m views ts ws more n d within are fails is =
    let stream : StreamWait → Step = λ x. x.stream in
    let P = IsAskedInVain m in
    let kept = selected_same P (take n ts) (map stream ws) (get_or ts n d) fails are.selected in
    let same : AreWaitsOf m views (take (n + 1) ts) ws = record {
      selected = subst (λ xs. AreSelected P xs (map stream ws)) (sym (take_more ts n d within)) kept;
      each = are.each;
    } in
    subst (AreWaitsOf m views (take (n + 1) ts)) (sym is) same
