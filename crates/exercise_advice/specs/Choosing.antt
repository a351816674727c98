-- Which line of a file of advice is said of a mistake.
use Rattle.std.specs.Prelude.{nat_le, ◌==◌, ◌&&◌, not, Bool, if◌then◌else◌, List, count_by}
use Rattle.std.specs.List.{list_all}
use Rattle.judgements.specs.Severity.{severity_of}
use Rattle.judgements.specs.declared.verdict_kinds.VerdictKind.{VerdictKind}
use Rattle.exercise_advice.specs.Facts.{fits}
use Rattle.exercise_advice.specs.declared.facts.SoughtFact.{SoughtFact}
use Rattle.exercise_advice.specs.declared.lines.AdviceLine.{AdviceLine}
use Rattle.exercise_advice.specs.declared.observations.Observation.{Observation}

-- whether as many observations fit a fact as it asks for, or more
abbrev pub is_seen : List Observation → SoughtFact → Bool
is_seen seen f = nat_le f.times (count_by (fits f) seen)

-- whether a fact holds: so many observations fit it, or with `not` fewer do
abbrev pub holds : List Observation → SoughtFact → Bool
holds seen f = if f.is_wanted then is_seen seen f else not (is_seen seen f)

abbrev pub all_hold : List Observation → List SoughtFact → Bool
all_hold seen facts = list_all (holds seen) facts

-- whether a line is said of a program with a verdict, which these observations show: it is of this verdict, and all of its
-- facts hold (no two verdicts are equally severe)
abbrev pub is_said_of : VerdictKind → List Observation → AdviceLine → Bool
is_said_of verdict seen line = severity_of line.verdict == severity_of verdict && all_hold seen line.facts.items
