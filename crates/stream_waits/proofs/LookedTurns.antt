-- Which step turned a word last, as far back as the steps were looked at.
use Rattle.std.proofs.Common.{◌≡◌, ℕ, ◌+◌, ◌≤◌, sym, ap, ◌∙◌, subst, arith, List, length, slice_get}
use Rattle.std.proofs.Common.{Some, inl, inr}
use Rattle.std.proofs.lemmas.Bool.{cases_lt}
use Rattle.std.proofs.lemmas.Option.{slice_get_within, same_Some}
use Rattle.step_views.specs.declared.step_views.StepView.{StepView}
use Rattle.stream_waits.specs.declared.turns.LastTurn.{LastTurn}
use Rattle.stream_waits.specs.Turns.{Turns, IsLastTurn}
use Rattle.stream_waits.proofs.LookedTries.{ViewAt}

-- none of the steps from place n on turned the word
abbrev pub NoneFrom : List StepView → ℕ → ℕ → Type 0
NoneFrom views address n =
    (j : ℕ) (view : StepView) → n ≤ j → slice_get views j ≡ Some view → ¬ (Turns view address)

pub none_past : (views : List StepView) (address n : ℕ) → length views ≤ n → NoneFrom views address n
none_past views address n past = λ j view from at turns.
    let within = slice_get_within views j view at in
    absurd (omega arith)

pub none_more : (views : List StepView) (address n : ℕ) (view : StepView) → ViewAt views n view
    → ¬ (Turns view address) → NoneFrom views address (n + 1) → NoneFrom views address n
none_more views address n view at not none = λ j other from there turns.
    elim (cases_lt n j) [
      | inl more ↦ none j other (omega arith) there turns
      | inr most ↦
          let here : j ≡ n = omega arith in
          let same : other ≡ view = same_Some _ _ (sym there ∙ ap (slice_get views) here ∙ at.at) in
          not (subst (λ (x : StepView). Turns x address) same turns)
    ]

pub last_here : (views : List StepView) (address n : ℕ) (view : StepView) (turn : LastTurn) → ViewAt views n view
    → turn.number ≡ n + 1 → turn.step ≡ view.step → Turns view address → NoneFrom views address (n + 1)
    → IsLastTurn views address turn
last_here views address n view turn at number step turns none = record {
  place = n;
  number = omega (arith, number);
  view = view;
  at = at.at;
  step = step;
  turns = turns;
  later = λ j other after there. none j other (omega arith) there;
}
