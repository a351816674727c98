-- Faults and their lines, and refusals of memory, which may come in place of any other answer.
use Rattle.std.specs.Prelude.{◌≡◌, ◌≢◌, Result, Err}
use Rattle.asm_line.specs.declared.fault.Fault.{Fault}
use Rattle.asm_line.specs.declared.fault.Fault.TheVariants as fault
use Rattle.asm_text.specs.declared.fault.AsmFault.{AsmFault}

abbrev pub asm_no_memory : AsmFault
asm_no_memory = record { line = 0; kind = fault.NoMemory }

-- e is the fault, unless memory ran out
abbrev pub IsItemFault : {A : Type 0} → Fault → Result A Fault → Type 0
IsItemFault e r = e ≢ fault.NoMemory → r ≡ Err e

abbrev pub IsTextFault : {A : Type 0} → AsmFault → Result A AsmFault → Type 0
IsTextFault e r = e.kind ≢ fault.NoMemory → r ≡ Err e
