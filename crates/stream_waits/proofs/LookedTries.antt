-- Since when a stream is tried, as far back as the steps were looked at.
use Rattle.std.proofs.Common.{◌≡◌, ℕ, zero, suc, ◌+◌, ◌<◌, ◌≤◌, sym, ap, ◌∙◌, subst, arith, List, length, slice_get}
use Rattle.std.proofs.Common.{Some, inl, inr}
use Rattle.std.proofs.lemmas.Bool.{cases_lt}
use Rattle.std.proofs.lemmas.Option.{slice_get_within, same_Some}
use Rattle.stream_core.specs.declared.steps.Outcome.TheVariants as outcome
use Rattle.processor.specs.declared.steps.Step.{Step}
use Rattle.step_views.specs.declared.step_views.StepView.{StepView}
use Rattle.stream_waits.specs.Tries.{IsStepOf, AreBlockedFrom, IsTry, IsSince}

-- the number, counted from 1, of the stream's first step from place n on; 0 where there is none
abbrev pub IsFirstFrom : List StepView → Step → ℕ → ℕ → Type 0
IsFirstFrom views stream n zero = (k : ℕ) → n ≤ k → ¬ (IsStepOf views stream k)
IsFirstFrom views stream n (suc s) =
    IsStepOf views stream s × (n ≤ s) × ((k : ℕ) → n ≤ k → k < s → ¬ (IsStepOf views stream k))

-- the steps from place n on were looked at: the stream's were all blocked, and this is the first of them
pub record Looked (views : List StepView) (stream : Step) (n since : ℕ) : Type 0 where
  pub blocked : AreBlockedFrom views stream n
  pub first : IsFirstFrom views stream n since

pub looked_none : (views : List StepView) (stream : Step) (n : ℕ) → length views ≤ n → Looked views stream n 0
looked_none views stream n past = record {
  blocked = λ j view from at own.
      let within = slice_get_within views j view at in
      absurd (omega arith);
  first = λ k from step.
      let within = slice_get_within views k step.view step.at in
      absurd (omega arith);
}

-- The step in place n.
pub record ViewAt (views : List StepView) (n : ℕ) (view : StepView) : Type 0 where
  pub at : slice_get views n ≡ Some view

same_view : (views : List StepView) (n j : ℕ) (view other : StepView) → ViewAt views n view → slice_get views j ≡ Some other
    → j ≡ n → other ≡ view
same_view views n j view other at there same =
    same_Some _ _ (sym there ∙ ap (slice_get views) same ∙ at.at)

-- It is one of another stream.

other_first : (views : List StepView) (stream : Step) (n since : ℕ) (view : StepView) → ViewAt views n view
    → (view.step ≡ stream → ⊥) → IsFirstFrom views stream (n + 1) since → IsFirstFrom views stream n since
other_first views stream n zero view at other first = λ k from step.
    elim (cases_lt n k) [
      | inl more ↦ first k (omega arith) step
      | inr most ↦
          let here : k ≡ n = omega arith in
          let same = same_view views n k view step.view at step.at here in
          other (sym (ap (λ (x : StepView). x.step) same) ∙ step.own)
    ]
other_first views stream n (suc s) view at other first = (
  first.0,
  omega (arith, first.1),
  λ k from before step.
      elim (cases_lt n k) [
        | inl more ↦ first.2 k (omega arith) before step
        | inr most ↦
            let here : k ≡ n = omega arith in
            let same = same_view views n k view step.view at step.at here in
            other (sym (ap (λ (x : StepView). x.step) same) ∙ step.own)
      ],
)

pub looked_other : (views : List StepView) (stream : Step) (n since : ℕ) (view : StepView) → ViewAt views n view
    → (view.step ≡ stream → ⊥) → Looked views stream (n + 1) since → Looked views stream n since
looked_other views stream n since view at other looked = record {
  blocked = λ j v from there own.
      elim (cases_lt n j) [
        | inl more ↦ looked.blocked j v (omega arith) there own
        | inr most ↦
            let here : j ≡ n = omega arith in
            let same = same_view views n j view v at there here in
            absurd (other (sym (ap (λ (x : StepView). x.step) same) ∙ own))
      ];
  first = other_first views stream n since view at other looked.first;
}

-- It is a try in vain of the stream.
pub looked_try : (views : List StepView) (stream : Step) (n since : ℕ) (view : StepView) → ViewAt views n view
    → view.step ≡ stream → view.outcome ≡ outcome.Blocked → Looked views stream (n + 1) since
    → Looked views stream n (n + 1)
looked_try views stream n since view at own blocked looked =
    let first : IsFirstFrom views stream n (suc n) = (
      record { view = view; at = at.at; own = own },
      omega arith,
      λ k from before step. absurd (omega arith),
    ) in
    let next : suc n ≡ n + 1 = omega arith in
    record {
      blocked = λ j v from there mine.
          elim (cases_lt n j) [
            | inl more ↦ looked.blocked j v (omega arith) there mine
            | inr most ↦
                let here : j ≡ n = omega arith in
                let same = same_view views n j view v at there here in
                ap (λ (x : StepView). x.outcome) same ∙ blocked
          ];
      first = subst (IsFirstFrom views stream n) next first;
    }

-- It is a step of the stream that was not blocked.
before_none : (views : List StepView) (stream : Step) (n k : ℕ) (view : StepView) → ViewAt views n view
    → view.step ≡ stream → (view.outcome ≡ outcome.Blocked → ⊥) → k ≤ n → IsTry views stream k → ⊥
before_none views stream n k view at own done before try = done (try.blocked n view before at.at own)

pub since_stopped : (views : List StepView) (stream : Step) (n since : ℕ) (view : StepView) → ViewAt views n view
    → view.step ≡ stream → (view.outcome ≡ outcome.Blocked → ⊥) → Looked views stream (n + 1) since
    → IsSince views stream since
since_stopped views stream n zero view at own done looked = λ k try.
    elim (cases_lt n k) [
      | inl more ↦ looked.first k (omega arith) try.step
      | inr most ↦ before_none views stream n k view at own done (omega arith) try
    ]
since_stopped views stream n (suc s) view at own done looked = (
  record {
    step = looked.first.0;
    blocked = λ j v from there mine. looked.blocked j v (omega (arith, looked.first.1)) there mine;
  },
  λ k before try.
      elim (cases_lt n k) [
        | inl more ↦ looked.first.2 k (omega arith) before try.step
        | inr most ↦ before_none views stream n k view at own done (omega arith) try
      ],
)

-- all steps were looked at
pub since_all : (views : List StepView) (stream : Step) (n since : ℕ) → n ≡ 0 → Looked views stream n since
    → IsSince views stream since
since_all views stream n zero none looked = λ k try. looked.first k (omega arith) try.step
since_all views stream n (suc s) none looked = (
  record {
    step = looked.first.0;
    blocked = λ j v from there mine. looked.blocked j v (omega (arith, looked.first.1)) there mine;
  },
  λ k before try. looked.first.2 k (omega arith) before try.step,
)
