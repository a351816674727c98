-- One mark more, and one answer more.
use Rattle.std.proofs.Common.{◌≡◌, inl, inr, ℕ, ◌+◌, ◌<◌, sym, ap, ◌∙◌, subst, arith, Bool, false, List, [], ◌∷◌, ◌++◌, length, slice_index_or}
use Rattle.std.proofs.lemmas.Bool.{cases_lt}
use Rattle.std.proofs.lemmas.List.{get_or_append_left, get_or_push, get_or_default, length_push}
use Rattle.image_file.specs.ImageValue.{ImageValue}
use Rattle.processor.specs.World.{World}
use Rattle.processor.specs.declared.steps.Step.{Step}
use Rattle.starving_streams.specs.ScheduleSpace.Spaces.{SpaceValue, world_of}
use Rattle.starving_streams.specs.ClaimsTypes.RunCondition.{RunCondition}
use Rattle.starving_streams.specs.ClaimsTypes.Rest.{Rest}
use Rattle.run_answers.specs.declared.answers.RunAnswer.{RunAnswer}
use Rattle.run_answers.specs.Answers.{IsAnswer}
use Rattle.run_answers.specs.Marks.{AreMarksOf}

module _ (v : SpaceValue) (f : World → Bool) where
  pub no_marks : AreMarksOf v 0 f []
  no_marks = record { many = omega arith; each = λ k below. absurd (omega (arith, below)) }

  pub more_marks : (n : ℕ) (marks : List Bool) (mark : Bool) → mark ≡ f (world_of v n) → AreMarksOf v n f marks
      → AreMarksOf v (n + 1) f (marks ++ mark ∷ [])
  more_marks n marks mark is are = record {
    many = length_push marks mark ∙ ap (λ (k : ℕ). k + 1) are.many;
    each = λ k below. elim (cases_lt k n) [
      | inl less ↦
          get_or_append_left marks (mark ∷ []) false k (omega (arith, less, are.many)) ∙ are.each k less
      | inr most ↦
          let at : k ≡ n = omega (arith, below, most) in
          get_or_push marks mark false k (are.many ∙ sym at) ∙ is ∙ ap (λ (j : ℕ). f (world_of v j)) (sym at)
    ];
  }

-- There are so many answers, and each is that of its question.
pub record AreFirstAnswers (image : ImageValue) (begin : List Step) (rests : List Rest) (asked : List RunCondition) (n : ℕ)
    (answers : List RunAnswer) : Type 0 where
  pub many : length answers ≡ n
  pub each : (k : ℕ) (l : RunCondition) (a : RunAnswer) → k < n
      → IsAnswer image begin rests (slice_index_or asked k l) (slice_index_or answers k a)

module _ (image : ImageValue) (begin : List Step) (rests : List Rest) (asked : List RunCondition) where
  pub no_answers : AreFirstAnswers image begin rests asked 0 []
  no_answers = record { many = omega arith; each = λ k l a below. absurd (omega (arith, below)) }

  pub more_answers : (n : ℕ) (answers : List RunAnswer) (l : RunCondition) (answer : RunAnswer) → n < length asked
      → IsAnswer image begin rests (slice_index_or asked n l) answer → AreFirstAnswers image begin rests asked n answers
      → AreFirstAnswers image begin rests asked (n + 1) (answers ++ answer ∷ [])
  more_answers n answers l answer there is are = record {
    many = length_push answers answer ∙ ap (λ (k : ℕ). k + 1) are.many;
    each = λ k m a below. elim (cases_lt k n) [
      | inl less ↦
          subst (IsAnswer image begin rests (slice_index_or asked k m))
          (sym (get_or_append_left answers (answer ∷ []) a k (omega (arith, less, are.many)))) (are.each k m a less)
      | inr most ↦
          let at : k ≡ n = omega (arith, below, most) in
          subst (IsAnswer image begin rests (slice_index_or asked k m)) (sym (get_or_push answers answer a k (are.many ∙ sym at)))
          (subst (λ (q : RunCondition). IsAnswer image begin rests q answer)
          (get_or_default asked n l m there ∙ ap (λ (j : ℕ). slice_index_or asked j m) (sym at)) is)
    ];
  }
