-- Of which searches it is said whether all runs keep conditions, and what is said.
use Rattle.std.specs.Prelude.{Bool, true, false, IsTrue, List, Contains, Option, Some, None, ⊤}
use Rattle.std.specs.List.{list_all}
use Rattle.image_file.specs.ImageValue.{ImageValue}
use Rattle.processor.specs.declared.steps.Step.{Step}
use Rattle.run_answers.specs.ConditionsTypes.RunCondition.{RunCondition}
use Rattle.run_answers.specs.ConditionsTypes.Rest.{Rest}
use Rattle.run_answers.specs.Answers.{AreAnswers, IsKept}
use Rattle.run_answers.specs.declared.answers.RunAnswer.{RunAnswer}
use Rattle.run_answers.specs.declared.answers.RunAnswer.TheVariants as answer
use Rattle.endless_waits.specs.declared.kept.KeptConditions.{KeptConditions}
use Rattle.endless_waits.specs.declared.kept.KeptConditions.TheVariants as kept
use Rattle.endless_waits.specs.declared.unanswered.Unanswered.{Unanswered}

-- why it was not asked
abbrev pub why_not_kept : KeptConditions → Option Unanswered
why_not_kept (kept.Answered answers) = None
why_not_kept (kept.Unanswered u) = Some u

-- whether all runs keep the condition
abbrev pub is_kept : RunAnswer → Bool
is_kept (answer.Evaded r) = false
is_kept answer.Kept = true
is_kept answer.Undecided = false

-- whether it was asked, and they keep each of them
abbrev pub are_all_kept : KeptConditions → Bool
are_all_kept (kept.Answered answers) = list_all is_kept answers.items
are_all_kept (kept.Unanswered u) = false

-- Answers tell it of each; that it was not asked says nothing.
abbrev pub TellsWhatIsKept : ImageValue → List Step → List Rest → List RunCondition → KeptConditions → Type 0
TellsWhatIsKept image begin rests asked (kept.Answered answers) = AreAnswers image begin rests asked answers.items
TellsWhatIsKept image begin rests asked (kept.Unanswered u) = ⊤

-- all runs whose schedules begin so keep each of these conditions
abbrev pub AllKept : ImageValue → List Step → List Rest → List RunCondition → Type 0
AllKept image begin rests asked = (c : RunCondition) → Contains asked c → IsKept image begin rests c

-- What is said of conditions is so of a program whose schedules begin so.
pub record IsSoOfKept (image : ImageValue) (begin : List Step) (rests : List Rest) (asked : List RunCondition)
    (l : KeptConditions) : Type 0 where
  -- Each answer is that of its question: a run is shown that evades it, or there is none, or nothing is said.
  pub tells : TellsWhatIsKept image begin rests asked l
  -- If it says that all are kept, all are.
  pub all : IsTrue (are_all_kept l) → AllKept image begin rests asked
