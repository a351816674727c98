-- How parts are gathered.
use Rattle.std.specs.Prelude.{ℕ, ◌≡◌}
use Rattle.shared_history.specs.Parts.{PartsValue, PartBelongs, PartHasFinished, PartHasEntries, FailsFirst}
use Rattle.shared_history.specs.Parts.{AllBelong, AllHaveEntries}
use Rattle.shared_history.specs.Schedule.{WovenValue, IsWoven}
use Rattle.shared_history.specs.declared.gathering.GatherFault.{GatherFault}
use Rattle.shared_history.specs.declared.gathering.GatherFault.TheVariants.{Foreign, Short, Torn, NoMemory}

-- The fault holds: its kind is the first in this order that any record has, and its number the least.
abbrev pub Refuses : PartsValue → GatherFault → Type 0
Refuses parts (Foreign p) = FailsFirst (PartBelongs parts) p
Refuses parts (Short p) = ((q : ℕ) → PartBelongs parts q) × FailsFirst (PartHasFinished parts) p
Refuses parts (Torn p) =
    ((q : ℕ) → PartBelongs parts q) × ((q : ℕ) → PartHasFinished parts q) × FailsFirst (PartHasEntries parts) p
Refuses parts NoMemory =
    ((q : ℕ) → PartBelongs parts q) × ((q : ℕ) → PartHasFinished parts q) × ((q : ℕ) → PartHasEntries parts q)

-- what is found where no fault holds
pub record AreWhole (parts : PartsValue) : Type 0 where
  pub belong : AllBelong parts.shared parts.records
  pub finished : (q : ℕ) → PartHasFinished parts q
  pub entries : AllHaveEntries parts.shared parts.records

-- no fault holds, and the schedule is that of the parts' own memory and records
pub record IsGathered (parts : PartsValue) (w : WovenValue) : Type 0 where
  pub belong : (q : ℕ) → PartBelongs parts q
  pub finished : (q : ℕ) → PartHasFinished parts q
  pub entries : (q : ℕ) → PartHasEntries parts q
  pub shared_is : w.shared ≡ parts.shared
  pub records_are : w.records ≡ parts.records
  pub woven : IsWoven w
