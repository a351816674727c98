-- What the end of a run shows in place of what is expected.
use Rattle.std.specs.Prelude.{◌≡◌, IsTrue, IsFalse}
use Rattle.processor.specs.World.{World}
use Rattle.expectations.specs.Meeting.{is_met}
use Rattle.expectations.specs.declared.expectation.Expectation.{Expectation}
use Rattle.exercise_advice.specs.declared.shortfalls.Shortfall.{Shortfall}

-- a world is as an expectation says
abbrev pub IsMet : World → Expectation → Type 0
IsMet w e = IsTrue (is_met w e)

-- A world does not meet an expectation, of which this is said.
pub record IsShortfallOf (w : World) (e : Expectation) (s : Shortfall) : Type 0 where
  pub expected : s.expectation ≡ e
  pub missed : IsFalse (is_met w e)
