-- The aid: of each step, the registers of its stream that hold before it what was computed from some read.
use Rattle.std.specs.Prelude.{◌≡◌, ℕ, ◌<◌, Bool, true, ◌&&◌, List, length, Some, slice_get, slice_index_or}
use Rattle.processor.specs.declared.steps.Step.{Step}
use Rattle.run_findings.specs.Actions.{reads, is_by}
use Rattle.run_findings.specs.Places.{passes}
use Rattle.run_findings.specs.Marks.{no_marks, marks_after_deed, marks_before}
use Rattle.run_findings.specs.Needs.{are_shared, IsSized, IsPart}
use Rattle.run_findings.specs.Own.{AreOwn}
use Rattle.run_findings.specs.declared.actions.Action.{Action}
use Rattle.run_findings.specs.declared.marks.Marks.{Marks}
use Rattle.run_findings.specs.declared.sources.Sources.{Sources}

-- whether these have all marks of a stream before step n, of whatever a step of it read
abbrev pub HasAll : List Action → Step → ℕ → Marks → Type 0
HasAll ds t n any =
    (r : ℕ) → r < n → passes (is_by t) (slice_get ds r) ≡ true → IsPart (marks_before ds t r n) any

-- the same of the stream of step n
pub record AreAllAt (ds : List Action) (n : ℕ) (any : Marks) : Type 0 where
  pub sized : IsSized any
  pub all : (d : Action) → slice_get ds n ≡ Some d → HasAll ds d.stream n any

-- the same of the first n steps of a run
pub record AreAll (ds : List Action) (n : ℕ) (anys : List Marks) : Type 0 where
  pub count : length anys ≡ n
  pub are : (k : ℕ) (other : Marks) → k < n → AreAllAt ds k (slice_index_or anys k other)

pub record AreSources (ds : List Action) (s : Sources) : Type 0 where
  pub own : AreOwn ds s.own.items
  pub any : AreAll ds (length ds) s.any.items

-- whether a step read a word, into a register that is needed
abbrev pub is_needed_read : Action → ℕ → Marks → Bool
is_needed_read d a needed = reads a d && are_shared (marks_after_deed no_marks d.deed true) needed
