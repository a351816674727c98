-- Since when a stream is tried in vain.
use Rattle.std.specs.Prelude.{◌≡◌, ◌<◌, ◌≤◌, ℕ, zero, suc, List, slice_get, Some}
use Rattle.stream_core.specs.declared.steps.Outcome.TheVariants as outcome
use Rattle.processor.specs.declared.steps.Step.{Step}
use Rattle.step_views.specs.declared.step_views.StepView.{StepView}

-- The step in this place of a run, counted from 0, is one of the stream.
pub record IsStepOf (views : List StepView) (stream : Step) (k : ℕ) : Type 0 where
  pub view : StepView
  pub at : slice_get views k ≡ Some view
  pub own : view.step ≡ stream

-- Each step of the stream from this place on was blocked.
abbrev pub AreBlockedFrom : List StepView → Step → ℕ → Type 0
AreBlockedFrom views stream k =
    (j : ℕ) (view : StepView) → k ≤ j → slice_get views j ≡ Some view → view.step ≡ stream
    → view.outcome ≡ outcome.Blocked

-- The step in this place is one of the row of tries in vain with which the stream's steps end: it is a step of the
-- stream, and was blocked, as all later ones of the stream were.
pub record IsTry (views : List StepView) (stream : Step) (k : ℕ) : Type 0 where
  pub step : IsStepOf views stream k
  pub blocked : AreBlockedFrom views stream k

-- The number, counted from 1, is that of the first of these tries; 0 where there is none.
abbrev pub IsSince : List StepView → Step → ℕ → Type 0
IsSince views stream zero = (k : ℕ) → ¬ (IsTry views stream k)
IsSince views stream (suc n) = IsTry views stream n × ((k : ℕ) → k < n → ¬ (IsTry views stream k))
