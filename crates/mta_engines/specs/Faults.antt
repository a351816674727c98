-- What faults say of the input.
use Rattle.std.specs.Prelude.{◌≡◌, ◌≢◌, ℕ, List, Result, Err, ⊤}
use Rattle.asm_text.specs.Faults as source
use Rattle.asm_text.specs.declared.fault.AsmFault.{AsmFault}
use Rattle.image_file.specs.declared.fault.ImageFault.{ImageFault}
use Rattle.image_file.specs.declared.fault.ImageFault.TheVariants as image
use Rattle.trace_text.specs.ScheduleFaults as schedule
use Rattle.trace_text.specs.declared.schedule_fault.ScheduleFault.{ScheduleFault}
use Rattle.shared_history.specs.declared.parts.PartsFault.TheVariants as parts
use Rattle.shared_history.specs.declared.gathering.GatherFault.TheVariants as gather
use Rattle.memory_lock.specs.declared.threaded_runs.ThreadsFault.{ThreadsFault}
use Rattle.memory_lock.specs.declared.threaded_runs.ThreadsFault.TheVariants as threads
use Rattle.mta_engines.specs.declared.tool_fault.ToolFault.{ToolFault}
use Rattle.mta_engines.specs.declared.tool_fault.ToolFault.TheVariants.{Read, Write, TooLarge, NoMemory, Words}
use Rattle.mta_engines.specs.declared.tool_fault.ToolFault.TheVariants.{Asm, Image, Schedule, Build, Gather}

-- a fault of reading a reader whole
abbrev pub IsOfReading : ToolFault → Type 0
IsOfReading Read = ⊤
IsOfReading Write = ⊥
IsOfReading TooLarge = ⊤
IsOfReading NoMemory = ⊤
IsOfReading (Words line) = ⊥
IsOfReading (Asm fault) = ⊥
IsOfReading (Image fault) = ⊥
IsOfReading (Schedule fault) = ⊥
IsOfReading (Build fault) = ⊥
IsOfReading (Gather fault) = ⊥

-- The fault is one that the inputs have, or it comes from outside: a reader's, a writer's or want of memory.
abbrev pub IsFaultBy : (ToolFault → Type 0) → ToolFault → Type 0
IsFaultBy has Read = ⊤
IsFaultBy has Write = ⊤
IsFaultBy has NoMemory = ⊤
IsFaultBy has TooLarge = has TooLarge
IsFaultBy has (Words line) = has (Words line)
IsFaultBy has (Asm fault) = has (Asm fault)
IsFaultBy has (Image fault) = has (Image fault)
IsFaultBy has (Schedule fault) = has (Schedule fault)
IsFaultBy has (Build fault) = has (Build fault)
IsFaultBy has (Gather fault) = has (Gather fault)

-- the fault stands in place of the output
abbrev pub IsFaultOf : Result (List ℕ) ToolFault → ToolFault → Type 0
IsFaultOf output = IsFaultBy (λ fault. output ≡ Err fault)

-- Faults of the lower crates.

-- a refusal of memory is the tool's own; a fault of any other kind is told as it is
abbrev pub IsTold : {A : Type 0} → A → A → ToolFault → ToolFault → Type 0
IsTold kind no_memory as_it_is fault = (kind ≡ no_memory → fault ≡ NoMemory) × (kind ≢ no_memory → fault ≡ as_it_is)

abbrev pub IsOfSource : AsmFault → ToolFault → Type 0
IsOfSource found = IsTold found.kind source.asm_no_memory.kind (Asm found)

abbrev pub IsOfImage : ImageFault → ToolFault → Type 0
IsOfImage found = IsTold found image.NoMemory (Image found)

abbrev pub IsOfSchedule : ScheduleFault → ToolFault → Type 0
IsOfSchedule found = IsTold found.kind schedule.schedule_no_memory.kind (Schedule found)

abbrev pub IsOfThreads : {size : ℕ} → ThreadsFault size → ToolFault → Type 0
IsOfThreads (threads.Build found) = IsTold found parts.NoMemory (Build found)
IsOfThreads (threads.Gather left found) = IsTold found gather.NoMemory (Gather found)
