-- What the code looks for in the steps before another.
use Rattle.std.specs.Prelude.{ℕ, Bool}
use Rattle.run_findings.specs.Actions.{writes_by, written_by}
use Rattle.run_findings.specs.declared.actions.Action.{Action}
use Rattle.run_findings.specs.declared.searching.Sought.{Sought}
use Rattle.run_findings.specs.declared.searching.Sought.TheVariants as sought

abbrev pub is_sought : Sought → ℕ → Action → Bool
is_sought (sought.WrittenBy t) a d = written_by t a d
is_sought (sought.WritesBy t) a d = writes_by t d
