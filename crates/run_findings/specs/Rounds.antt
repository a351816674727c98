-- The aid: a stream's steps that meet a word part all that lies on both sides of them.
use Rattle.std.specs.Prelude.{ℕ, ◌==◌, Bool, false, not, ◌&&◌, List, Option, Some, None, slice_get}
use Rattle.processor.specs.declared.steps.Step.{Step}
use Rattle.run_findings.specs.Actions.{is_by}
use Rattle.run_findings.specs.Places.{passes}
use Rattle.run_findings.specs.Links.{is_overwritten}
use Rattle.run_findings.specs.TornReads.{meets, word_loaded}
use Rattle.run_findings.specs.declared.actions.Action.{Action}
use Rattle.run_findings.specs.declared.parting.Meeting.{Meeting}
use Rattle.run_findings.specs.declared.glimpse.Glimpse.{Glimpse}

-- whether a step is of a stream, and reads, or writes, a word
abbrev pub meets_by : Meeting → Step → ℕ → Action → Bool
meets_by way t b d = is_by t d && meets way b d

-- whether step m does
abbrev pub closes : List Action → Meeting → Step → ℕ → ℕ → Bool
closes ds way t b m = passes (meets_by way t b) (slice_get ds m)

abbrev pub is_other : Option ℕ → ℕ → Bool
is_other None b = false
is_other (Some a) b = not (a == b)

-- whether a step is a LOAD by a glimpse's reader of another word
abbrev pub is_look : Glimpse → Action → Bool
is_look g d = is_by g.reader d && is_other (word_loaded d.access) g.fresh

-- whether step i is one, and its word is written after it
abbrev pub is_stale_look : List Action → Glimpse → ℕ → Bool
is_stale_look ds g i = passes (is_look g) (slice_get ds i) && is_overwritten ds i
