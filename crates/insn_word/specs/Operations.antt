-- The operations, accesses and conditions: the number of each, one line for each of them, and all in the order of
-- their numbers.
use Rattle.std.specs.Prelude.{ℕ, Bool, true, false, List, [], ◌∷◌}
use Rattle.insn_word.specs.declared.operations.WideOp.{WideOp}
use Rattle.insn_word.specs.declared.operations.WideOp.TheVariants as wide
use Rattle.insn_word.specs.declared.operations.MemoryOp.{MemoryOp}
use Rattle.insn_word.specs.declared.operations.MemoryOp.TheVariants as memory
use Rattle.insn_word.specs.declared.operations.Access.{Access}
use Rattle.insn_word.specs.declared.operations.Access.TheVariants as access
use Rattle.insn_word.specs.declared.operations.ArithmeticOp.{ArithmeticOp}
use Rattle.insn_word.specs.declared.operations.ArithmeticOp.TheVariants as arithmetic
use Rattle.insn_word.specs.declared.operations.ControlOp.{ControlOp}
use Rattle.insn_word.specs.declared.operations.ControlOp.TheVariants as control
use Rattle.insn_word.specs.declared.operations.Condition.{Condition}
use Rattle.insn_word.specs.declared.operations.Condition.TheVariants as condition
use Rattle.insn_word.specs.declared.profiles.Profile.{Profile}
use Rattle.insn_word.specs.declared.profiles.Profile.TheVariants as profile

-- the number of each wide operation
abbrev pub wide_number : WideOp → ℕ
wide_number wide.Literal = 0
wide_number wide.LiteralHigh = 1
wide_number wide.TargetLiteral = 2

-- the number of each memory operation
abbrev pub memory_number : MemoryOp → ℕ
memory_number memory.Nop = 0
memory_number memory.Load = 1
memory_number memory.Store = 2
memory_number memory.FetchAdd = 3
memory_number memory.TagGet = 4
memory_number memory.TagSet = 5
memory_number memory.Purge = 6

-- the number of each access: where a reference's control comes from
abbrev pub access_number : Access → ℕ
access_number access.FromPointer = 0
access_number access.Normal = 1
access_number access.Future = 2
access_number access.Sync = 3

-- the number of each arithmetic operation
abbrev pub arithmetic_number : ArithmeticOp → ℕ
arithmetic_number arithmetic.Nop = 0
arithmetic_number arithmetic.Add = 1
arithmetic_number arithmetic.Sub = 2
arithmetic_number arithmetic.Mul = 3
arithmetic_number arithmetic.And = 4
arithmetic_number arithmetic.Or = 5
arithmetic_number arithmetic.Xor = 6
arithmetic_number arithmetic.AndNot = 7
arithmetic_number arithmetic.ShiftLeft = 8
arithmetic_number arithmetic.ShiftRight = 9
arithmetic_number arithmetic.ShiftRightSigned = 10
arithmetic_number arithmetic.Tally = 11
arithmetic_number arithmetic.LessSigned = 12
arithmetic_number arithmetic.LessUnsigned = 13
arithmetic_number arithmetic.Pointer = 14

-- the number of each control operation
abbrev pub control_number : ControlOp → ℕ
control_number control.Nop = 0
control_number control.Jump = 1
control_number control.Skip = 2
control_number control.Call = 3
control_number control.Exchange = 4
control_number control.TargetSet = 5
control_number control.TargetGet = 6
control_number control.TrapGet = 7
control_number control.Reserve = 8
control_number control.Create = 9
control_number control.Quit = 10
control_number control.QuitKeep = 11
control_number control.Mask = 12

-- the number of each condition
abbrev pub condition_number : Condition → ℕ
condition_number condition.Always = 0
condition_number condition.Equal = 1
condition_number condition.NotEqual = 2
condition_number condition.Less = 3
condition_number condition.GreaterEqual = 4
condition_number condition.LessEqual = 5
condition_number condition.Greater = 6
condition_number condition.LessUnsigned = 7
condition_number condition.GreaterEqualUnsigned = 8
condition_number condition.LessEqualUnsigned = 9
condition_number condition.GreaterUnsigned = 10
condition_number condition.Negative = 11
condition_number condition.Positive = 12
condition_number condition.Overflow = 13
condition_number condition.NoOverflow = 14

-- all wide operations, in the order of their numbers
abbrev pub wide_operations : List WideOp
wide_operations = wide.Literal ∷ wide.LiteralHigh ∷ wide.TargetLiteral ∷ []

-- all memory operations, in the order of their numbers
abbrev pub memory_operations : List MemoryOp
memory_operations =
    memory.Nop ∷ memory.Load ∷ memory.Store ∷ memory.FetchAdd ∷ memory.TagGet ∷ memory.TagSet ∷ memory.Purge ∷ []

-- all accesses, in the order of their numbers
abbrev pub accesses : List Access
accesses =
    access.FromPointer ∷ access.Normal ∷ access.Future ∷ access.Sync ∷ []

-- all arithmetic operations, in the order of their numbers
abbrev pub arithmetic_operations : List ArithmeticOp
arithmetic_operations =
    arithmetic.Nop ∷ arithmetic.Add ∷ arithmetic.Sub ∷ arithmetic.Mul ∷ arithmetic.And ∷ arithmetic.Or
    ∷ arithmetic.Xor ∷ arithmetic.AndNot ∷ arithmetic.ShiftLeft ∷ arithmetic.ShiftRight
    ∷ arithmetic.ShiftRightSigned ∷ arithmetic.Tally ∷ arithmetic.LessSigned ∷ arithmetic.LessUnsigned
    ∷ arithmetic.Pointer ∷ []

-- all control operations, in the order of their numbers
abbrev pub control_operations : List ControlOp
control_operations =
    control.Nop ∷ control.Jump ∷ control.Skip ∷ control.Call ∷ control.Exchange ∷ control.TargetSet
    ∷ control.TargetGet ∷ control.TrapGet ∷ control.Reserve ∷ control.Create ∷ control.Quit ∷ control.QuitKeep
    ∷ control.Mask ∷ []

-- all conditions, in the order of their numbers
abbrev pub conditions : List Condition
conditions =
    condition.Always ∷ condition.Equal ∷ condition.NotEqual ∷ condition.Less ∷ condition.GreaterEqual
    ∷ condition.LessEqual ∷ condition.Greater ∷ condition.LessUnsigned ∷ condition.GreaterEqualUnsigned
    ∷ condition.LessEqualUnsigned ∷ condition.GreaterUnsigned ∷ condition.Negative ∷ condition.Positive
    ∷ condition.Overflow ∷ condition.NoOverflow ∷ []

-- The profiles. Profile 2 has all of Profile 1, and PURGE.

-- whether a profile has PURGE
abbrev pub has_purge : Profile → Bool
has_purge profile.One = false
has_purge profile.Two = true

-- whether a profile has a memory operation
abbrev pub has_operation : Profile → MemoryOp → Bool
has_operation p memory.Nop = true
has_operation p memory.Load = true
has_operation p memory.Store = true
has_operation p memory.FetchAdd = true
has_operation p memory.TagGet = true
has_operation p memory.TagSet = true
has_operation p memory.Purge = has_purge p

-- the memory operations of Profile 1, in the order of their numbers
abbrev pub profile_one_memory_operations : List MemoryOp
profile_one_memory_operations =
    memory.Nop ∷ memory.Load ∷ memory.Store ∷ memory.FetchAdd ∷ memory.TagGet ∷ memory.TagSet ∷ []
