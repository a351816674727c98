-- Runs that evade a condition, as a verdict shows them.
use Rattle.std.specs.Prelude.{◌≡◌, ℕ, ◌+◌, List, [], ◌∷◌, Option, Some, None}
use Rattle.program_searches.specs.RunAnswers.Answers.{round_of, is_open}
use Rattle.program_searches.specs.RunAnswersTypes.EvadingRun.{EvadingRun}
use Rattle.program_searches.specs.RunAnswersTypes.RunEnd.{RunEnd}
use Rattle.program_searches.specs.RunAnswersTypes.RunAnswer.{RunAnswer}
use Rattle.program_searches.specs.RunAnswersTypes.RunAnswer.TheVariants as answer
use Rattle.program_searches.specs.RunAnswersTypes.KeptConditions.{KeptConditions}
use Rattle.program_searches.specs.RunAnswersTypes.KeptConditions.TheVariants as kept
use Rattle.judgements.specs.declared.evaded.Evasion.{Evasion}

-- The same follows: nothing, the same round, or anything.
pub record IsSameEnd (x y : RunEnd) : Type 0 where
  pub round : round_of y ≡ round_of x
  pub anything : is_open y ≡ is_open x

-- The same schedule, the same steps, and the same that follows.
pub record IsSameRun (x y : EvadingRun) : Type 0 where
  pub stem : y.stem.items ≡ x.stem.items
  pub way : y.way.items ≡ x.way.items
  pub end : IsSameEnd x.end y.end

-- the first answer with a run, of some of which the first has this number
abbrev pub IsFirstEvasion : ℕ → List RunAnswer → Evasion → Type 0
IsFirstEvasion n [] e = ⊥
IsFirstEvasion n (answer.Evaded r ∷ more) e = (e.place ≡ n) × IsSameRun r e.run
IsFirstEvasion n (answer.Kept ∷ more) e = IsFirstEvasion (n + 1) more e
IsFirstEvasion n (answer.Undecided ∷ more) e = IsFirstEvasion (n + 1) more e

-- the answers about conditions
abbrev pub answers_in : Option KeptConditions → List RunAnswer
answers_in None = []
answers_in (Some (kept.Answered answers)) = answers.items
answers_in (Some (kept.Unanswered u)) = []
