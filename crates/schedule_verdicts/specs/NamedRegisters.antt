-- Registers that are named, since expectations look at them.
use Rattle.std.specs.Prelude.{ℕ, ◌<◌, Bool, List, IsTrue}
use Rattle.std.specs.List.{AllByRecursion}
use Rattle.program_flow.specs.Tables.{is_named_by}
use Rattle.expectations.specs.NamedRegisters.{is_register_named, IsOfRegisters}
use Rattle.expectations.specs.declared.expectation.Expectation.{Expectation}
use Rattle.busy_streams.specs.ScheduleSpace.Spaces.{SpaceValue, count, world_of}
use Rattle.busy_streams.specs.ScheduleSpace.Reaching.{IsEnd}

-- each of the 32 registers is named that an expectation looks at
abbrev pub AreNamed : List Expectation → List Bool → Type 0
AreNamed expected names = (r : ℕ) → r < 32 → IsTrue (is_register_named expected r) → IsTrue (is_named_by names r)

-- each register is that an expectation looks at, also one that no stream has
abbrev pub AreAllNamed : List Expectation → List Bool → Type 0
AreAllNamed expected names = (r : ℕ) → IsTrue (is_register_named expected r) → IsTrue (is_named_by names r)

-- expectations look at registers that a stream has
abbrev pub AreOfRegisters : List Expectation → Type 0
AreOfRegisters expected = AllByRecursion IsOfRegisters expected

-- so they do if the world at this place of a space is an end
abbrev pub IsOfRegistersAt : SpaceValue → List Expectation → ℕ → Type 0
IsOfRegistersAt v expected k = IsEnd v.image (world_of v k) → AreOfRegisters expected

-- the same of each end of it
abbrev pub EndOfRegisters : SpaceValue → List Expectation → Type 0
EndOfRegisters v expected = (k : ℕ) → k < count v → IsOfRegistersAt v expected k
