-- The names of operations, conditions and directives, and which directives each profile has (which operations it has:
-- has_operation of insn_word). Reader and lister go by these tables.
use Rattle.std.specs.Prelude.{ℕ, Bool, true, false, List, [], ◌∷◌, ◌++◌, codes}
use Rattle.insn_word.specs.declared.operations.WideOp.{WideOp}
use Rattle.insn_word.specs.declared.operations.WideOp.TheVariants as wide
use Rattle.insn_word.specs.declared.operations.MemoryOp.{MemoryOp}
use Rattle.insn_word.specs.declared.operations.MemoryOp.TheVariants as memory
use Rattle.insn_word.specs.declared.operations.Access.{Access}
use Rattle.insn_word.specs.declared.operations.Access.TheVariants as access
use Rattle.insn_word.specs.declared.operations.ArithmeticOp.{ArithmeticOp}
use Rattle.insn_word.specs.declared.operations.ArithmeticOp.TheVariants as arithmetic
use Rattle.insn_word.specs.declared.operations.ControlOp.{ControlOp}
use Rattle.insn_word.specs.declared.operations.ControlOp.TheVariants as control
use Rattle.insn_word.specs.declared.operations.Condition.{Condition}
use Rattle.insn_word.specs.declared.operations.Condition.TheVariants as condition
use Rattle.insn_word.specs.declared.profiles.Profile.{Profile}
use Rattle.insn_word.specs.declared.profiles.Profile.TheVariants as profile
use Rattle.asm_line.specs.declared.operation.Operation.{Operation}
use Rattle.asm_line.specs.declared.operation.Operation.TheVariants as operation
use Rattle.asm_line.specs.declared.operation.Directive.{Directive}
use Rattle.asm_line.specs.declared.operation.Directive.TheVariants as directive

-- the name of each wide operation
abbrev pub wide_name : WideOp → List ℕ
wide_name wide.Literal = codes "LIT"
wide_name wide.LiteralHigh = codes "LITH"
wide_name wide.TargetLiteral = codes "TLIT"

-- the name of each memory operation
abbrev pub memory_name : MemoryOp → List ℕ
memory_name memory.Nop = codes "NOP"
memory_name memory.Load = codes "LOAD"
memory_name memory.Store = codes "STORE"
memory_name memory.FetchAdd = codes "FADD"
memory_name memory.TagGet = codes "TAGGET"
memory_name memory.TagSet = codes "TAGSET"
memory_name memory.Purge = codes "PURGE"

-- the name of each arithmetic operation
abbrev pub arithmetic_name : ArithmeticOp → List ℕ
arithmetic_name arithmetic.Nop = codes "NOP"
arithmetic_name arithmetic.Add = codes "ADD"
arithmetic_name arithmetic.Sub = codes "SUB"
arithmetic_name arithmetic.Mul = codes "MUL"
arithmetic_name arithmetic.And = codes "AND"
arithmetic_name arithmetic.Or = codes "OR"
arithmetic_name arithmetic.Xor = codes "XOR"
arithmetic_name arithmetic.AndNot = codes "ANDN"
arithmetic_name arithmetic.ShiftLeft = codes "SHL"
arithmetic_name arithmetic.ShiftRight = codes "SHR"
arithmetic_name arithmetic.ShiftRightSigned = codes "SAR"
arithmetic_name arithmetic.Tally = codes "TALLY"
arithmetic_name arithmetic.LessSigned = codes "LTS"
arithmetic_name arithmetic.LessUnsigned = codes "LTU"
arithmetic_name arithmetic.Pointer = codes "PTR"

-- the name of each control operation
abbrev pub control_name : ControlOp → List ℕ
control_name control.Nop = codes "NOP"
control_name control.Jump = codes "JUMP"
control_name control.Skip = codes "SKIP"
control_name control.Call = codes "CALL"
control_name control.Exchange = codes "XCHG"
control_name control.TargetSet = codes "TSET"
control_name control.TargetGet = codes "TGET"
control_name control.TrapGet = codes "XGET"
control_name control.Reserve = codes "RESERVE"
control_name control.Create = codes "CREATE"
control_name control.Quit = codes "QUIT"
control_name control.QuitKeep = codes "QUITP"
control_name control.Mask = codes "MASK"

-- the name of each condition
abbrev pub condition_name : Condition → List ℕ
condition_name condition.Always = codes "ALWAYS"
condition_name condition.Equal = codes "EQ"
condition_name condition.NotEqual = codes "NE"
condition_name condition.Less = codes "LT"
condition_name condition.GreaterEqual = codes "GE"
condition_name condition.LessEqual = codes "LE"
condition_name condition.Greater = codes "GT"
condition_name condition.LessUnsigned = codes "LTU"
condition_name condition.GreaterEqualUnsigned = codes "GEU"
condition_name condition.LessEqualUnsigned = codes "LEU"
condition_name condition.GreaterUnsigned = codes "GTU"
condition_name condition.Negative = codes "NEG"
condition_name condition.Positive = codes "POS"
condition_name condition.Overflow = codes "OV"
condition_name condition.NoOverflow = codes "NOV"

-- the name of each directive, with the dot that it begins with
abbrev pub directive_name : Directive → List ℕ
directive_name directive.Profile = codes ".profile"
directive_name directive.Slim = codes ".slim"
directive_name directive.Chain = codes ".chain"
directive_name directive.Retry = codes ".retry"
directive_name directive.Trap = codes ".trap"
directive_name directive.Entry = codes ".entry"
directive_name directive.Word = codes ".word"
directive_name directive.Data = codes ".data"
directive_name directive.Fill = codes ".fill"

-- what follows the name of a memory operation for each access; nothing where the pointer says it
abbrev pub access_suffix : Access → List ℕ
access_suffix access.FromPointer = []
access_suffix access.Normal = codes ".N"
access_suffix access.Future = codes ".F"
access_suffix access.Sync = codes ".S"

-- what follows the name of an arithmetic operation that makes a condition code; nothing follows the others
abbrev pub test_suffix : Bool → List ℕ
test_suffix false = []
test_suffix true = codes ".T"

-- the head of an operation
abbrev pub operation_name : Operation → List ℕ
operation_name operation.Nop = codes "NOP"
operation_name (operation.Wide o) = wide_name o
operation_name (operation.Memory o acc) = memory_name o ++ access_suffix acc
operation_name (operation.Arithmetic o test) = arithmetic_name o ++ test_suffix test
operation_name (operation.Control o) = control_name o

-- what the head of a directive may name
abbrev pub directives : List Directive
directives =
    directive.Profile ∷ directive.Slim ∷ directive.Chain ∷ directive.Retry ∷ directive.Trap ∷ directive.Entry
    ∷ directive.Word ∷ directive.Data ∷ directive.Fill ∷ []

-- Profile 2 has all of Profile 1, and .chain.

-- whether a profile has .chain
abbrev pub has_chain : Profile → Bool
has_chain profile.One = false
has_chain profile.Two = true

-- whether a profile has a directive
abbrev pub has_directive : Profile → Directive → Bool
has_directive p directive.Profile = true
has_directive p directive.Slim = true
has_directive p directive.Chain = has_chain p
has_directive p directive.Retry = true
has_directive p directive.Trap = true
has_directive p directive.Entry = true
has_directive p directive.Word = true
has_directive p directive.Data = true
has_directive p directive.Fill = true

-- the number of a profile, as .profile has it
abbrev pub profile_number : Profile → ℕ
profile_number profile.One = 1
profile_number profile.Two = 2
