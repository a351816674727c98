-- The faults by number.
use Rattle.std.specs.Prelude.{ℕ}
use Rattle.debug_commands.specs.declared.debug_fault.DebugFault.{DebugFault}
use Rattle.debug_commands.specs.declared.debug_fault.DebugFault.TheVariants.{Syntax, NoSuchStream, NoSuchWord}
use Rattle.debug_commands.specs.declared.debug_fault.DebugFault.TheVariants.{NoSuchPoint, Past, NoMemory}

-- the number of each fault
abbrev pub debug_fault_number : DebugFault → ℕ
debug_fault_number Syntax = 1
debug_fault_number NoSuchStream = 2
debug_fault_number NoSuchWord = 3
debug_fault_number NoSuchPoint = 4
debug_fault_number Past = 5
debug_fault_number NoMemory = 6
