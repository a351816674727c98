-- The traps and their numbers.
use Rattle.std.specs.Prelude.{ℕ}
use Rattle.tag_memory.specs.declared.requests.MemTrap.{MemTrap}
use Rattle.tag_memory.specs.declared.requests.MemTrap.TheVariants as memory
use Rattle.stream_core.specs.declared.traps.TrapKind.{TrapKind}
use Rattle.stream_core.specs.declared.traps.TrapKind.TheVariants as kind

-- the number of each trap
abbrev pub trap_number : TrapKind → ℕ
trap_number kind.Program = 1
trap_number kind.Illegal = 2
trap_number kind.Create = 3
trap_number kind.Pointer = 4
trap_number kind.Align = 5
trap_number kind.Range = 6
trap_number kind.Trap0 = 7
trap_number kind.Trap1 = 8
trap_number kind.Forward = 9
trap_number kind.Blocked = 10

-- the trap that the memory asks for
abbrev pub memory_trap : MemTrap → TrapKind
memory_trap memory.Pointer = kind.Pointer
memory_trap memory.Align = kind.Align
memory_trap memory.Range = kind.Range
memory_trap memory.Trap0 = kind.Trap0
memory_trap memory.Trap1 = kind.Trap1
memory_trap memory.Forward = kind.Forward
