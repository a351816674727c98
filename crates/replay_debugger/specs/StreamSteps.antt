-- Which step of a schedule led to a position, and whose it is.
use Rattle.std.specs.Prelude.{ℕ, ◌-◌, ◌==◌, ◌&&◌, nat_lt, Bool, false, if◌then◌else◌, List, Option, Some, None}
use Rattle.std.specs.Prelude.{slice_get}
use Rattle.processor.specs.declared.steps.Step.{Step}

-- the step that led to position k; none to position 0
abbrev pub step_to : List Step → ℕ → Option Step
step_to schedule k = if nat_lt 0 k then slice_get schedule (k - 1) else None

-- whether a step is one of this stream of this processor
abbrev pub is_of_stream : ℕ → ℕ → Option Step → Bool
is_of_stream p s None = false
is_of_stream p s (Some t) = (t.p == p) && (t.s == s)

-- whether the step that led to position k was one of this stream
abbrev pub has_just_stepped : List Step → ℕ → ℕ → ℕ → Bool
has_just_stepped schedule p s k = is_of_stream p s (step_to schedule k)
