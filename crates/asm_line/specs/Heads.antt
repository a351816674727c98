-- The operation or directive that a head names. An operation's head is its name and perhaps, after a dot, a suffix.
use Rattle.std.specs.Prelude.{ℕ, Bool, true, false, ◌&&◌, if◌then◌else◌, List, drop, codes, Option, Some, None, Result}
use Rattle.std.specs.Option.{option_map, option_or}
use Rattle.std.specs.List.{find}
use Rattle.std.specs.Str.{bytes_eq}
use Rattle.insn_word.specs.declared.operations.WideOp.{WideOp}
use Rattle.insn_word.specs.declared.operations.MemoryOp.{MemoryOp}
use Rattle.insn_word.specs.declared.operations.MemoryOp.TheVariants as memory
use Rattle.insn_word.specs.declared.operations.Access.{Access}
use Rattle.insn_word.specs.declared.operations.Access.TheVariants as access
use Rattle.insn_word.specs.declared.operations.ArithmeticOp.{ArithmeticOp}
use Rattle.insn_word.specs.declared.operations.ControlOp.{ControlOp}
use Rattle.insn_word.specs.declared.operations.Condition.{Condition}
use Rattle.text_parts.specs.Pieces.{text_before, text_after}
use Rattle.asm_line.specs.Faults.{unless_unknown}
use Rattle.asm_line.specs.Names.{wide_name, memory_name, arithmetic_name, control_name, condition_name}
use Rattle.asm_line.specs.Names.{access_suffix, test_suffix, directive_name}
use Rattle.asm_line.specs.Names.{directives, has_directive}
use Rattle.insn_word.specs.Operations.{wide_operations, memory_operations, accesses, arithmetic_operations}
use Rattle.insn_word.specs.Operations.{control_operations, conditions, has_operation}
use Rattle.insn_word.specs.declared.profiles.Profile.{Profile}
use Rattle.asm_line.specs.declared.fault.Fault.{Fault}
use Rattle.asm_line.specs.declared.operation.Operation.{Operation}
use Rattle.asm_line.specs.declared.operation.Operation.TheVariants as operation
use Rattle.asm_line.specs.declared.operation.Directive.{Directive}

-- Names. NOP, the first operation of each part of a normal word, is named by no part: it is an instruction of its
-- own. A memory operation or directive that the profile lacks is named by nothing.

-- the wide operation of a name
unfoldable pub wide_named : List ℕ → Option WideOp
wide_named name = find (λ o. bytes_eq name (wide_name o)) wide_operations

-- the memory operation of a name that the profile has
unfoldable pub memory_named : Profile → List ℕ → Option MemoryOp
memory_named p name = find (λ o. bytes_eq name (memory_name o) && has_operation p o) (drop 1 memory_operations)

-- the arithmetic operation of a name
unfoldable pub arithmetic_named : List ℕ → Option ArithmeticOp
arithmetic_named name = find (λ o. bytes_eq name (arithmetic_name o)) (drop 1 arithmetic_operations)

-- the control operation of a name
unfoldable pub control_named : List ℕ → Option ControlOp
control_named name = find (λ o. bytes_eq name (control_name o)) (drop 1 control_operations)

-- the condition of a name
unfoldable pub condition_named : List ℕ → Option Condition
condition_named name = find (λ o. bytes_eq name (condition_name o)) conditions

-- the directive of a name that the profile has
unfoldable pub directive_named : Profile → List ℕ → Option Directive
directive_named p name = find (λ d. bytes_eq name (directive_name d) && has_directive p d) directives

-- NOP, by its name
abbrev pub nop_named : List ℕ → Option Operation
nop_named name = if bytes_eq name (codes "NOP") then Some operation.Nop else None

-- Suffixes.

-- an operation that has none
abbrev pub without_suffix : Option (List ℕ) → Option Operation → Option Operation
without_suffix None o = o
without_suffix (Some _) o = None

-- the access of the letter behind the dot of its suffix; the first access, which is the pointer's, has no suffix
abbrev pub letter_access : List ℕ → Option Access
letter_access letter = find (λ a. bytes_eq letter (drop 1 (access_suffix a))) (drop 1 accesses)

-- LOAD, STORE and FADD may name an access; with no suffix it is the pointer's
abbrev pub has_access : MemoryOp → Bool
has_access memory.Nop = false
has_access memory.Load = true
has_access memory.Store = true
has_access memory.FetchAdd = true
has_access memory.TagGet = false
has_access memory.TagSet = false
has_access memory.Purge = false

-- the access of a memory operation by its suffix, none where the suffix may not stand there
unfoldable pub access_named : MemoryOp → Option (List ℕ) → Option Access
access_named op None = Some access.FromPointer
access_named op (Some letter) = if has_access op then letter_access letter else None

-- the letter of the test suffix asks for a condition code
unfoldable pub test_named : Option (List ℕ) → Option Bool
test_named None = Some false
test_named (Some letter) = if bytes_eq letter (drop 1 (test_suffix true)) then Some true else None

-- a memory operation with its suffix, none where that may not stand there
abbrev pub memory_suffixed : Option (List ℕ) → MemoryOp → Option Operation
memory_suffixed suffix op = option_map (operation.Memory op) (access_named op suffix)

-- an arithmetic operation with its suffix, none where that may not stand there
abbrev pub arithmetic_suffixed : Option (List ℕ) → ArithmeticOp → Option Operation
arithmetic_suffixed suffix op = option_map (operation.Arithmetic op) (test_named suffix)

-- Heads.

-- NOP, wide operations and control operations have no suffix
unfoldable pub plain_named : List ℕ → Option Operation
plain_named name =
    option_or (nop_named name)
    (option_or (option_map operation.Wide (wide_named name)) (option_map operation.Control (control_named name)))

-- a memory operation where the name is that of one, else an operation without suffix
abbrev pub memory_or_plain : List ℕ → Option (List ℕ) → Option MemoryOp → Option Operation
memory_or_plain name suffix (Some op) = memory_suffixed suffix op
memory_or_plain name suffix None = without_suffix suffix (plain_named name)

-- an arithmetic operation where the name is that of one, else one of the others
abbrev pub arithmetic_or_other : Profile → List ℕ → Option (List ℕ) → Option ArithmeticOp → Option Operation
arithmetic_or_other p name suffix (Some op) = arithmetic_suffixed suffix op
arithmetic_or_other p name suffix None = memory_or_plain name suffix (memory_named p name)

-- the operation of a name and a suffix, none where nothing has them in this profile
unfoldable pub operation_named : Profile → List ℕ → Option (List ℕ) → Option Operation
operation_named p name suffix = arithmetic_or_other p name suffix (arithmetic_named name)

-- the operation that a head names: its name stands before the first dot, its suffix behind it
unfoldable pub operation_of : Profile → List ℕ → Result Operation Fault
operation_of p head = unless_unknown (operation_named p (text_before 46 head) (text_after 46 head))

-- the directive that a head names
unfoldable pub directive_of : Profile → List ℕ → Result Directive Fault
directive_of p head = unless_unknown (directive_named p head)
