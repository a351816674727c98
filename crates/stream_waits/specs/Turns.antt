-- Which step turned a word last: filled it where it was empty, or emptied it where it was full.
use Rattle.std.specs.Prelude.{◌≡◌, ◌<◌, ℕ, suc, List, slice_get, Some}
use Rattle.std.specs.List.{Any}
use Rattle.step_views.specs.declared.step_views.StepView.{StepView}
use Rattle.step_views.specs.FullBits.{FillsOrEmpties}
use Rattle.stream_waits.specs.declared.turns.LastTurn.{LastTurn}

-- the step filled or emptied the word
abbrev pub Turns : StepView → ℕ → Type 0
Turns view address = Any (FillsOrEmpties address) view.changes.items

-- The step of this number, counted from 1, is the last one that filled or emptied the word, and of this stream.
pub record IsLastTurn (views : List StepView) (address : ℕ) (turn : LastTurn) : Type 0 where
  pub place : ℕ
  pub number : turn.number ≡ suc place
  pub view : StepView
  pub at : slice_get views place ≡ Some view
  pub step : turn.step ≡ view.step
  pub turns : Turns view address
  pub later : (j : ℕ) (other : StepView) → place < j → slice_get views j ≡ Some other → ¬ (Turns other address)

-- no step filled or emptied the word
abbrev pub NoneTurns : List StepView → ℕ → Type 0
NoneTurns views address = (j : ℕ) (view : StepView) → slice_get views j ≡ Some view → ¬ (Turns view address)
