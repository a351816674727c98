-- How the steps of a processor are kept: as runs of one stream.
use Rattle.std.specs.Prelude.{ℕ, ◌≡◌, ◌≢◌, ◌-◌, ◌<◌, ◌≤◌, List, [], ◌∷◌, ◌++◌, length, replicate, slice_get, Some}
use Rattle.processor.specs.declared.recorded_steps.StreamRun.{StreamRun}

-- the streams of some runs, step by step, where the first begins behind n steps
unfoldable pub run_numbers : ℕ → List StreamRun → List ℕ
run_numbers n [] = []
run_numbers n (r ∷ rs) = replicate (r.end - n) r.stream ++ run_numbers r.end rs

-- each run has a step, the first behind n steps
abbrev pub AreRunEnds : ℕ → List StreamRun → Type 0
AreRunEnds n [] = Unit {0}
AreRunEnds n (r ∷ rs) = (n < r.end) × AreRunEnds r.end rs

-- the streams of runs that are over, and of the run that goes on after them
abbrev pub step_numbers : List StreamRun → ℕ → ℕ → List ℕ
step_numbers runs s count = run_numbers 0 runs ++ replicate count s

-- the stream of the first of some runs; s where there is none
abbrev pub leading_stream : List StreamRun → ℕ → ℕ
leading_stream [] s = s
leading_stream (r ∷ rs) s = r.stream

-- each run is of another stream than the one behind it, which is of s behind the last
abbrev pub AreApart : List StreamRun → ℕ → Type 0
AreApart [] s = Unit {0}
AreApart (r ∷ rs) s = (leading_stream rs s ≢ r.stream) × AreApart rs s

-- runs that are over, of so many steps together, and a run that goes on, of stream s; it has a step where there is one
pub record AreStreamRuns (runs : List StreamRun) (before s count : ℕ) : Type 0 where
  pub ended : AreRunEnds 0 runs
  pub length : length (run_numbers 0 runs) ≡ before
  pub first : count ≡ 0 → runs ≡ []
  pub apart : AreApart runs s

-- the steps from i up to an end are all of one stream, and the step at the end, if any, is not
pub record IsStreamRun (ss : List ℕ) (i s end : ℕ) : Type 0 where
  pub begins : i < end
  pub within : end ≤ length ss
  pub each : (k : ℕ) → i ≤ k → k < end → slice_get ss k ≡ Some s
  pub furthest : slice_get ss end ≢ Some s
