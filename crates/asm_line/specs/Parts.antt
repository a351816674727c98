-- What an operation with its operands says: one definition for each form of operands.
use Rattle.std.specs.Prelude.{ℕ, ◌-◌, ◌^◌, pos, Bool, List, [], ◌∷◌, Result, Ok, Err}
use Rattle.insn_word.specs.Words.{arithmetic_nop, only_control}
use Rattle.insn_word.specs.declared.operations.WideOp.{WideOp}
use Rattle.insn_word.specs.declared.operations.WideOp.TheVariants as wide
use Rattle.insn_word.specs.declared.operations.MemoryOp.{MemoryOp}
use Rattle.insn_word.specs.declared.operations.Access.{Access}
use Rattle.insn_word.specs.declared.operations.ArithmeticOp.{ArithmeticOp}
use Rattle.insn_word.specs.declared.operations.ArithmeticOp.TheVariants as arithmetic
use Rattle.insn_word.specs.declared.operations.ControlOp.{ControlOp}
use Rattle.insn_word.specs.declared.operations.ControlOp.TheVariants as control
use Rattle.insn_word.specs.declared.operations.Condition.{Condition}
use Rattle.insn_word.specs.declared.insn.MPart.{MPart}
use Rattle.insn_word.specs.declared.insn.APart.{APart}
use Rattle.insn_word.specs.declared.insn.CPart.{CPart}
use Rattle.insn_word.specs.declared.insn.Insn.{Insn}
use Rattle.insn_word.specs.declared.insn.Insn.TheVariants as insn
use Rattle.asm_line.specs.Faults.{map_ok, both}
use Rattle.asm_line.specs.Numbers.{number_within}
use Rattle.asm_line.specs.Operands.{Places, register, target, value_within, offset, displacement}
use Rattle.asm_line.specs.Operands.{source_of, is_number, source_number, condition}
use Rattle.asm_line.specs.declared.fault.Fault.{Fault}
use Rattle.asm_line.specs.declared.fault.Fault.TheVariants as fault

-- Wide words: a register or for TLIT a target register, and a number or label.

-- the register that a wide operation writes; TLIT writes a target register
abbrev pub wide_register : WideOp → List ℕ → Result ℕ Fault
wide_register wide.Literal text = register text
wide_register wide.LiteralHigh text = register text
wide_register wide.TargetLiteral text = target text

-- a number of 32 bits, or the value of a label
unfoldable pub immediate : Places → List ℕ → Result ℕ Fault
immediate places text = value_within places (2 ^ 32 - 1) text

-- a wide operation with its two operands
abbrev pub wide_word : Places → WideOp → List (List ℕ) → Result Insn Fault
wide_word places op (x ∷ y ∷ []) =
    map_ok (λ v. insn.Wide 0 op v.0 v.1) (both (wide_register op x) (immediate places y))
wide_word places op _ = Err fault.Operand

-- The memory part: rd, base, displacement.

-- a memory operation with its three operands
abbrev pub memory_part : MemoryOp → Access → List (List ℕ) → Result MPart Fault
memory_part op acc (x ∷ y ∷ z ∷ []) =
    map_ok (λ v. record { op = op; acc = acc; rd = v.0.0; base = v.0.1; disp = v.1 })
    (both (both (register x) (register y)) (displacement z))
memory_part op acc _ = Err fault.Operand

-- The arithmetic part: rd, ra and for all but TALLY a register or number.

-- TALLY rd, ra
abbrev pub tally : Bool → List (List ℕ) → Result APart Fault
tally test (x ∷ y ∷ []) =
    map_ok (λ v. record arithmetic_nop { op = arithmetic.Tally; test = test; rd = v.0; ra = v.1 })
    (both (register x) (register y))
tally test _ = Err fault.Operand

-- an arithmetic operation of two sources
abbrev pub of_two : ArithmeticOp → Bool → List (List ℕ) → Result APart Fault
of_two op test (x ∷ y ∷ z ∷ []) =
    map_ok (λ v. record { op = op; test = test; imm = is_number v.1; rd = v.0.0; ra = v.0.1; rb = source_number v.1 })
    (both (both (register x) (register y)) (source_of z))
of_two op test _ = Err fault.Operand

-- each arithmetic operation with its operands
abbrev pub arithmetic_part : ArithmeticOp → Bool → List (List ℕ) → Result APart Fault
arithmetic_part arithmetic.Nop test ops = Err fault.Operand
arithmetic_part arithmetic.Add test ops = of_two arithmetic.Add test ops
arithmetic_part arithmetic.Sub test ops = of_two arithmetic.Sub test ops
arithmetic_part arithmetic.Mul test ops = of_two arithmetic.Mul test ops
arithmetic_part arithmetic.And test ops = of_two arithmetic.And test ops
arithmetic_part arithmetic.Or test ops = of_two arithmetic.Or test ops
arithmetic_part arithmetic.Xor test ops = of_two arithmetic.Xor test ops
arithmetic_part arithmetic.AndNot test ops = of_two arithmetic.AndNot test ops
arithmetic_part arithmetic.ShiftLeft test ops = of_two arithmetic.ShiftLeft test ops
arithmetic_part arithmetic.ShiftRight test ops = of_two arithmetic.ShiftRight test ops
arithmetic_part arithmetic.ShiftRightSigned test ops = of_two arithmetic.ShiftRightSigned test ops
arithmetic_part arithmetic.Tally test ops = tally test ops
arithmetic_part arithmetic.LessSigned test ops = of_two arithmetic.LessSigned test ops
arithmetic_part arithmetic.LessUnsigned test ops = of_two arithmetic.LessUnsigned test ops
arithmetic_part arithmetic.Pointer test ops = of_two arithmetic.Pointer test ops

-- The control part.

-- JUMP, of what it tests and of where it goes
abbrev pub jump_part : Result (Condition × ℕ) Fault → Result ℕ Fault → Result CPart Fault
jump_part test t =
    map_ok (λ v. record (only_control control.Jump) { cond = v.0.0; code = v.0.1; t = v.1 }) (both test t)

-- JUMP condition, code, target register
abbrev pub jump : List (List ℕ) → Result CPart Fault
jump (x ∷ y ∷ z ∷ []) = jump_part (both (condition x) (number_within 3 y)) (target z)
jump _ = Err fault.Operand

-- here is the place of the word
abbrev pub skip : Places → ℕ → List (List ℕ) → Result CPart Fault
skip places here (x ∷ y ∷ z ∷ []) =
    map_ok (λ v. record (only_control control.Skip) { cond = v.0.0; code = v.0.1; n = v.1 })
    (both (both (condition x) (number_within 3 y)) (offset places here z))
skip places here _ = Err fault.Operand

-- CALL target register, target register
abbrev pub call : List (List ℕ) → Result CPart Fault
call (x ∷ y ∷ []) =
    map_ok (λ v. record (only_control control.Call) { t = v.0; u = v.1 }) (both (target x) (target y))
call _ = Err fault.Operand

-- XCHG target register
abbrev pub exchange : List (List ℕ) → Result CPart Fault
exchange (x ∷ []) = map_ok (λ t. record (only_control control.Exchange) { t = t }) (target x)
exchange _ = Err fault.Operand

-- TSET and CREATE
abbrev pub to_target : ControlOp → List (List ℕ) → Result CPart Fault
to_target op (x ∷ y ∷ []) =
    map_ok (λ v. record (only_control op) { t = v.0; ra = v.1 }) (both (target x) (register y))
to_target op _ = Err fault.Operand

-- TGET rd, target register
abbrev pub from_target : List (List ℕ) → Result CPart Fault
from_target (x ∷ y ∷ []) =
    map_ok (λ v. record (only_control control.TargetGet) { rd = v.0; t = v.1 }) (both (register x) (target y))
from_target _ = Err fault.Operand

-- XGET rd
abbrev pub trap_get : List (List ℕ) → Result CPart Fault
trap_get (x ∷ []) = map_ok (λ rd. record (only_control control.TrapGet) { rd = rd }) (register x)
trap_get _ = Err fault.Operand

-- RESERVE rd, ra
abbrev pub reserve : List (List ℕ) → Result CPart Fault
reserve (x ∷ y ∷ []) =
    map_ok (λ v. record (only_control control.Reserve) { rd = v.0; ra = v.1 }) (both (register x) (register y))
reserve _ = Err fault.Operand

-- QUIT and QUITP
abbrev pub bare : ControlOp → List (List ℕ) → Result CPart Fault
bare op [] = Ok (only_control op)
bare op _ = Err fault.Operand

-- MASK m, the trap mask, 0 to 7
abbrev pub mask : List (List ℕ) → Result CPart Fault
mask (x ∷ []) = map_ok (λ m. record (only_control control.Mask) { n = pos m }) (number_within 7 x)
mask _ = Err fault.Operand

-- each control operation with its operands
abbrev pub control_part : Places → ℕ → ControlOp → List (List ℕ) → Result CPart Fault
control_part places here control.Nop ops = Err fault.Operand
control_part places here control.Jump ops = jump ops
control_part places here control.Skip ops = skip places here ops
control_part places here control.Call ops = call ops
control_part places here control.Exchange ops = exchange ops
control_part places here control.TargetSet ops = to_target control.TargetSet ops
control_part places here control.TargetGet ops = from_target ops
control_part places here control.TrapGet ops = trap_get ops
control_part places here control.Reserve ops = reserve ops
control_part places here control.Create ops = to_target control.Create ops
control_part places here control.Quit ops = bare control.Quit ops
control_part places here control.QuitKeep ops = bare control.QuitKeep ops
control_part places here control.Mask ops = mask ops
