-- The aid: of each step, the last step before it of its stream.
use Rattle.std.specs.Prelude.{◌≡◌, ℕ, ◌<◌, ◌+◌, ◌*◌, ◌==◌, Bool, List, length, Option, None, Some, slice_get, slice_index_or}
use Rattle.processor.specs.declared.steps.Step.{Step}
use Rattle.run_findings.specs.Actions.{is_by}
use Rattle.run_findings.specs.Places.{last_before}
use Rattle.run_findings.specs.declared.actions.Action.{Action}

-- a number that no other stream has
abbrev pub number_of : Step → ℕ
number_of t = t.p * 256 + t.s

-- a processor and a stream that a byte can name
pub record IsInRange (t : Step) : Type 0 where
  pub p : t.p < 256
  pub s : t.s < 256

-- whether a step is of the stream with a number
abbrev pub has_number : ℕ → Action → Bool
has_number a d = number_of d.stream == a

abbrev pub own_of : List Action → ℕ → Option Action → Option ℕ
own_of ds n None = None
own_of ds n (Some d) = last_before (is_by d.stream) ds n

-- the last step before step n of its stream
abbrev pub own_at : List Action → ℕ → Option ℕ
own_at ds n = own_of ds n (slice_get ds n)

-- these of all steps of a run
pub record AreOwn (ds : List Action) (links : List (Option ℕ)) : Type 0 where
  pub count : length links ≡ length ds
  pub is : (n : ℕ) (other : Option ℕ) → n < length ds → slice_index_or links n other ≡ own_at ds n
