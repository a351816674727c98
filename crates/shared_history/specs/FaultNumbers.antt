-- The numbers of the faults.
use Rattle.std.specs.Prelude.{ℕ}
use Rattle.shared_history.specs.declared.parts.PartsFault.{PartsFault}
use Rattle.shared_history.specs.declared.parts.PartsFault.TheVariants as parts
use Rattle.shared_history.specs.declared.gathering.GatherFault.{GatherFault}
use Rattle.shared_history.specs.declared.gathering.GatherFault.TheVariants as gather

abbrev pub parts_fault_number : PartsFault → ℕ
parts_fault_number parts.Streams = 1
parts_fault_number parts.TooLong = 2
parts_fault_number parts.NoMemory = 3

abbrev pub gather_fault_number : GatherFault → ℕ
gather_fault_number (gather.Foreign p) = 1
gather_fault_number (gather.Short p) = 2
gather_fault_number (gather.Torn p) = 3
gather_fault_number gather.NoMemory = 4
