-- What is said of conditions on runs.
use Rattle.std.specs.Prelude.{◌≡◌, ◌≤◌, ◌<◌, ◌++◌, ℕ, Bool, true, false, List, ◌∷◌, length, slice_index_or, Option, Some, None}
use Rattle.image_file.specs.ImageValue.{ImageValue}
use Rattle.processor.specs.World.{run}
use Rattle.processor.specs.declared.steps.Step.{Step}
use Rattle.starving_streams.specs.ClaimsTypes.LeadsTo.{LeadsTo}
use Rattle.starving_streams.specs.ClaimsTypes.Rest.{Rest}
use Rattle.starving_streams.specs.ClaimsTypes.Fairness.{Fairness}
use Rattle.starving_streams.specs.ClaimsTypes.Overtaking.{Overtaking}
use Rattle.starving_streams.specs.ClaimsTypes.RunCondition.{RunCondition}
use Rattle.starving_streams.specs.ClaimsTypes.RunCondition.TheVariants as condition
use Rattle.run_answers.specs.declared.answers.EvadingRun.{EvadingRun}
use Rattle.run_answers.specs.declared.answers.RunAnswer.{RunAnswer}
use Rattle.run_answers.specs.declared.answers.RunAnswer.TheVariants as answer
use Rattle.run_answers.specs.declared.answers.RunEnd.{RunEnd}
use Rattle.run_answers.specs.declared.answers.RunEnd.TheVariants as end
use Rattle.run_answers.specs.Leading.{Evades, Leads}
use Rattle.run_answers.specs.Overtaking.{IsOvertaken, IsBounded}

-- the round that is taken again and again; none where no stream runs, or anything may follow
abbrev pub round_of : RunEnd → Option (List Step)
round_of end.Stops = None
round_of (end.Repeats round) = Some round.items
round_of end.Anything = None

-- whether anything may follow
abbrev pub is_open : RunEnd → Bool
is_open end.Stops = false
is_open (end.Repeats round) = false
is_open end.Anything = true

-- The schedule of a run begins as was asked, and no schedule that does leads in fewer steps to the world that it leads to.
pub record IsShortest (image : ImageValue) (begin : List Step) (r : EvadingRun) : Type 0 where
  pub begins : (more : List Step) × (r.stem.items ≡ begin ++ more)
  pub shortest : (ts : List Step) → run image (begin ++ ts) ≡ run image r.stem.items
      → length r.stem.items ≤ length (begin ++ ts)

-- The run evades what a condition is to lead to: it stops, or a round follows.
pub record IsEvasion (image : ImageValue) (rests : List Rest) (f : Fairness) (asked : LeadsTo) (r : EvadingRun) : Type 0 where
  pub evades : Evades image rests f asked r.stem.items r.way.items (round_of r.end)
  pub ends : is_open r.end ≡ false

-- On the run the stream is overtaken too often: its steps begin with one of the stream, and anything may follow.
pub record IsOvertaking (image : ImageValue) (asked : Overtaking) (r : EvadingRun) : Type 0 where
  pub overtaken : (more : List Step) × (r.way.items ≡ asked.who ∷ more) × IsOvertaken image asked r.stem.items more
  pub anything : is_open r.end ≡ true

-- the run evades the condition
abbrev pub IsEvadedBy : ImageValue → List Rest → EvadingRun → RunCondition → Type 0
IsEvadedBy image rests r (condition.Leads l f) = IsEvasion image rests f l r
IsEvadedBy image rests r (condition.Overtaken o) = IsOvertaking image o r

-- The run that is shown evades it, by a shortest schedule.
pub record IsShown (image : ImageValue) (begin : List Step) (rests : List Rest) (asked : RunCondition) (r : EvadingRun)
    : Type 0 where
  pub stem : IsShortest image begin r
  pub evaded : IsEvadedBy image rests r asked

-- each run whose schedule begins so keeps the condition
abbrev pub IsKept : ImageValue → List Step → List Rest → RunCondition → Type 0
IsKept image begin rests (condition.Leads l f) = Leads image begin rests f l
IsKept image begin rests (condition.Overtaken o) = IsBounded image begin o

-- what an answer says: it shows such a run, or there is none, or it says nothing
abbrev pub IsAnswer : ImageValue → List Step → List Rest → RunCondition → RunAnswer → Type 0
IsAnswer image begin rests asked (answer.Evaded r) = IsShown image begin rests asked r
IsAnswer image begin rests asked answer.Kept = IsKept image begin rests asked
IsAnswer image begin rests asked answer.Undecided = Unit {0}

-- what an answer says of one kind of condition alone
abbrev pub IsLeadsAnswer : ImageValue → List Step → List Rest → Fairness → LeadsTo → RunAnswer → Type 0
IsLeadsAnswer image begin rests f asked a = IsAnswer image begin rests (condition.Leads asked f) a

abbrev pub IsOvertakingAnswer : ImageValue → List Step → List Rest → Overtaking → RunAnswer → Type 0
IsOvertakingAnswer image begin rests asked a = IsAnswer image begin rests (condition.Overtaken asked) a

-- There are as many answers as questions, and each is that of its question.
pub record AreAnswers (image : ImageValue) (begin : List Step) (rests : List Rest) (asked : List RunCondition)
    (answers : List RunAnswer) : Type 0 where
  pub many : length answers ≡ length asked
  pub each : (k : ℕ) (c : RunCondition) (a : RunAnswer) → k < length asked
      → IsAnswer image begin rests (slice_index_or asked k c) (slice_index_or answers k a)
