-- Steps of a run, which count from 0.
use Rattle.std.specs.Prelude.{ℕ, zero, suc, Bool, false, if◌then◌else◌, List, Option, Some, None}
use Rattle.std.specs.Prelude.{slice_get}
use Rattle.run_findings.specs.declared.actions.Action.{Action}

-- whether a step passes a test, if there is one
abbrev pub passes : (Action → Bool) → Option Action → Bool
passes test None = false
passes test (Some d) = test d

-- the last step before step n that passes a test
abbrev pub last_before : (Action → Bool) → List Action → ℕ → Option ℕ
last_before test ds zero = None
last_before test ds (suc n) = if passes test (slice_get ds n) then Some n else last_before test ds n

-- the last number below n that passes a test
abbrev pub last_below : (ℕ → Bool) → ℕ → Option ℕ
last_below test zero = None
last_below test (suc n) = if test n then Some n else last_below test n
