-- The numbers of the faults.
use Rattle.std.specs.Prelude.{ℕ, Option, Some, None}
use Rattle.image_file.specs.declared.fault.ImageFault.{ImageFault}
use Rattle.image_file.specs.declared.fault.ImageFault.TheVariants.{Short, Magic, Version, Count, Entry, TagByte}
use Rattle.image_file.specs.declared.fault.ImageFault.TheVariants.{Trailing, NoMemory}

abbrev pub image_fault_number : ImageFault → ℕ
image_fault_number Short = 1
image_fault_number Magic = 2
image_fault_number Version = 3
image_fault_number (Count field) = 4
image_fault_number (Entry processor) = 5
image_fault_number (TagByte cell) = 6
image_fault_number Trailing = 7
image_fault_number NoMemory = 8

-- the earlier of two faults
abbrev pub first_of : Option ImageFault → Option ImageFault → Option ImageFault
first_of (Some earlier) later = Some earlier
first_of None later = later
