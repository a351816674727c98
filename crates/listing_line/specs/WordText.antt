-- A program word as a line: the instruction that it spells in a profile, or the word itself, and behind it the place
-- and the word.
use Rattle.std.specs.Prelude.{ℕ, ◌==◌, Bool, true, false, if◌then◌else◌, List, [], ◌∷◌, ◌++◌, codes, Option, Some}
use Rattle.std.specs.Prelude.{None}
use Rattle.std.specs.Fmt.{decimal, signed_decimal}
use Rattle.insn_word.specs.Reading.{instruction_in}
use Rattle.insn_word.specs.declared.profiles.Profile.{Profile}
use Rattle.insn_word.specs.declared.operations.WideOp.{WideOp}
use Rattle.insn_word.specs.declared.operations.WideOp.TheVariants as wide
use Rattle.insn_word.specs.declared.operations.MemoryOp.{MemoryOp}
use Rattle.insn_word.specs.declared.operations.MemoryOp.TheVariants as memory
use Rattle.insn_word.specs.declared.operations.ArithmeticOp.{ArithmeticOp}
use Rattle.insn_word.specs.declared.operations.ArithmeticOp.TheVariants as arithmetic
use Rattle.insn_word.specs.declared.operations.ControlOp.{ControlOp}
use Rattle.insn_word.specs.declared.operations.ControlOp.TheVariants as control
use Rattle.insn_word.specs.declared.insn.MPart.{MPart}
use Rattle.insn_word.specs.declared.insn.APart.{APart}
use Rattle.insn_word.specs.declared.insn.CPart.{CPart}
use Rattle.insn_word.specs.declared.insn.Insn.{Insn}
use Rattle.insn_word.specs.declared.insn.Insn.TheVariants as insn
use Rattle.text_parts.specs.Digits.{hexadecimal_16, five_digits}
use Rattle.asm_line.specs.Names.{wide_name, condition_name, operation_name, directive_name}
use Rattle.asm_line.specs.declared.operation.Operation.TheVariants as operation
use Rattle.asm_line.specs.declared.operation.Directive.TheVariants as directive

-- Statements.

-- operands, with a comma and a blank between two
abbrev pub comma_separated : List (List ℕ) → List ℕ
comma_separated [] = []
comma_separated (x ∷ []) = x
comma_separated (x ∷ y ∷ ys) = x ++ (codes ", " ++ comma_separated (y ∷ ys))

-- a head, and behind a blank its operands, if it has any
abbrev pub statement_text : List ℕ → List (List ℕ) → List ℕ
statement_text head [] = head
statement_text head (x ∷ xs) = head ++ (codes " " ++ comma_separated (x ∷ xs))

-- Operands.

-- a register by its number
abbrev pub register_text : ℕ → List ℕ
register_text number = codes "r" ++ decimal number

-- a target register by its number
abbrev pub target_text : ℕ → List ℕ
target_text number = codes "t" ++ decimal number

-- a number, or the register of that number
abbrev pub source_text : Bool → ℕ → List ℕ
source_text true number = decimal number
source_text false number = register_text number

-- all digits of a word
abbrev pub digits_text : ℕ → List ℕ
digits_text word = codes "0x" ++ hexadecimal_16 word

-- the operands of a wide operation, in the order of the assembler
abbrev pub wide_operands : WideOp → ℕ → ℕ → List (List ℕ)
wide_operands wide.Literal reg imm = register_text reg ∷ decimal imm ∷ []
wide_operands wide.LiteralHigh reg imm = register_text reg ∷ decimal imm ∷ []
wide_operands wide.TargetLiteral reg imm = target_text reg ∷ decimal imm ∷ []

-- the operands of a memory operation, in the order of the assembler
abbrev pub memory_operands : MPart → List (List ℕ)
memory_operands m = register_text m.rd ∷ register_text m.base ∷ signed_decimal m.disp ∷ []

-- a destination, a register, and a register or number
abbrev pub operands_of_two : APart → List (List ℕ)
operands_of_two a = register_text a.rd ∷ register_text a.ra ∷ source_text a.imm a.rb ∷ []

-- the operands of an arithmetic operation, in the order of the assembler
abbrev pub arithmetic_operands : ArithmeticOp → APart → List (List ℕ)
arithmetic_operands arithmetic.Nop a = []
arithmetic_operands arithmetic.Add a = operands_of_two a
arithmetic_operands arithmetic.Sub a = operands_of_two a
arithmetic_operands arithmetic.Mul a = operands_of_two a
arithmetic_operands arithmetic.And a = operands_of_two a
arithmetic_operands arithmetic.Or a = operands_of_two a
arithmetic_operands arithmetic.Xor a = operands_of_two a
arithmetic_operands arithmetic.AndNot a = operands_of_two a
arithmetic_operands arithmetic.ShiftLeft a = operands_of_two a
arithmetic_operands arithmetic.ShiftRight a = operands_of_two a
arithmetic_operands arithmetic.ShiftRightSigned a = operands_of_two a
arithmetic_operands arithmetic.Tally a = register_text a.rd ∷ register_text a.ra ∷ []
arithmetic_operands arithmetic.LessSigned a = operands_of_two a
arithmetic_operands arithmetic.LessUnsigned a = operands_of_two a
arithmetic_operands arithmetic.Pointer a = operands_of_two a

-- the operands of a control operation, in the order of the assembler
abbrev pub control_operands : ControlOp → CPart → List (List ℕ)
control_operands control.Nop c = []
control_operands control.Jump c = condition_name c.cond ∷ decimal c.code ∷ target_text c.t ∷ []
control_operands control.Skip c = condition_name c.cond ∷ decimal c.code ∷ signed_decimal c.n ∷ []
control_operands control.Call c = target_text c.t ∷ target_text c.u ∷ []
control_operands control.Exchange c = target_text c.t ∷ []
control_operands control.TargetSet c = target_text c.t ∷ register_text c.ra ∷ []
control_operands control.TargetGet c = register_text c.rd ∷ target_text c.t ∷ []
control_operands control.TrapGet c = register_text c.rd ∷ []
control_operands control.Reserve c = register_text c.rd ∷ register_text c.ra ∷ []
control_operands control.Create c = target_text c.t ∷ register_text c.ra ∷ []
control_operands control.Quit c = []
control_operands control.QuitKeep c = []
control_operands control.Mask c = signed_decimal c.n ∷ []

-- Operations.

-- a wide operation with its operands
unfoldable pub wide_text : WideOp → ℕ → ℕ → List ℕ
wide_text op reg imm = statement_text (wide_name op) (wide_operands op reg imm)

-- a memory operation with its access and its operands
unfoldable pub memory_text : MPart → List ℕ
memory_text m = statement_text (operation_name (operation.Memory m.op m.acc)) (memory_operands m)

-- an arithmetic operation with its test and its operands
unfoldable pub arithmetic_text : APart → List ℕ
arithmetic_text a = statement_text (operation_name (operation.Arithmetic a.op a.test)) (arithmetic_operands a.op a)

-- a control operation with its operands
unfoldable pub control_text : CPart → List ℕ
control_text c = statement_text (operation_name (operation.Control c.op)) (control_operands c.op c)

-- Instructions.

-- whether a memory operation is NOP
abbrev pub is_no_memory : MemoryOp → Bool
is_no_memory memory.Nop = true
is_no_memory memory.Load = false
is_no_memory memory.Store = false
is_no_memory memory.FetchAdd = false
is_no_memory memory.TagGet = false
is_no_memory memory.TagSet = false
is_no_memory memory.Purge = false

-- whether an arithmetic operation is NOP
abbrev pub is_no_arithmetic : ArithmeticOp → Bool
is_no_arithmetic arithmetic.Nop = true
is_no_arithmetic arithmetic.Add = false
is_no_arithmetic arithmetic.Sub = false
is_no_arithmetic arithmetic.Mul = false
is_no_arithmetic arithmetic.And = false
is_no_arithmetic arithmetic.Or = false
is_no_arithmetic arithmetic.Xor = false
is_no_arithmetic arithmetic.AndNot = false
is_no_arithmetic arithmetic.ShiftLeft = false
is_no_arithmetic arithmetic.ShiftRight = false
is_no_arithmetic arithmetic.ShiftRightSigned = false
is_no_arithmetic arithmetic.Tally = false
is_no_arithmetic arithmetic.LessSigned = false
is_no_arithmetic arithmetic.LessUnsigned = false
is_no_arithmetic arithmetic.Pointer = false

-- whether a control operation is NOP
abbrev pub is_no_control : ControlOp → Bool
is_no_control control.Nop = true
is_no_control control.Jump = false
is_no_control control.Skip = false
is_no_control control.Call = false
is_no_control control.Exchange = false
is_no_control control.TargetSet = false
is_no_control control.TargetGet = false
is_no_control control.TrapGet = false
is_no_control control.Reserve = false
is_no_control control.Create = false
is_no_control control.Quit = false
is_no_control control.QuitKeep = false
is_no_control control.Mask = false

-- the text, but where this is so none
abbrev pub unless : Bool → List ℕ → List (List ℕ)
unless true text = []
unless false text = text ∷ []

-- the operation of a part; NOP is none

-- the memory operation of a word
abbrev pub memory_texts : MPart → List (List ℕ)
memory_texts m = unless (is_no_memory m.op) (memory_text m)

-- the arithmetic operation of a word
abbrev pub arithmetic_texts : APart → List (List ℕ)
arithmetic_texts a = unless (is_no_arithmetic a.op) (arithmetic_text a)

-- the control operation of a word
abbrev pub control_texts : CPart → List (List ℕ)
control_texts c = unless (is_no_control c.op) (control_text c)

-- the operations of a word
abbrev pub operation_texts : MPart → APart → CPart → List (List ℕ)
operation_texts m a c = memory_texts m ++ (arithmetic_texts a ++ control_texts c)

-- with a bar between two; no operation at all is NOP
abbrev pub bar_separated : List (List ℕ) → List ℕ
bar_separated [] = codes "NOP"
bar_separated (x ∷ []) = x
bar_separated (x ∷ y ∷ ys) = x ++ (codes " | " ++ bar_separated (y ∷ ys))

-- the lookahead, with a blank behind it; one of 0 is not printed
abbrev pub lookahead_text : ℕ → List ℕ
lookahead_text look = if look == 0 then [] else codes "@" ++ (decimal look ++ codes " ")

-- an instruction: its lookahead and its operations
unfoldable pub insn_text : Insn → List ℕ
insn_text (insn.Wide look op reg imm) = lookahead_text look ++ wide_text op reg imm
insn_text (insn.Normal look m a c) = lookahead_text look ++ bar_separated (operation_texts m a c)

-- Words.

-- a word that spells no instruction
unfoldable pub raw_text : ℕ → List ℕ
raw_text word = statement_text (directive_name directive.Word) (digits_text word ∷ [])

-- the instruction of a word, or the word itself where it spells none
abbrev pub instruction_or_raw_text : ℕ → Option Insn → List ℕ
instruction_or_raw_text word None = raw_text word
instruction_or_raw_text word (Some i) = insn_text i

-- a program word as a statement
unfoldable pub word_text : Profile → ℕ → List ℕ
word_text p word = instruction_or_raw_text word (instruction_in p word)

-- the comment behind a word: its place in five digits, and the word
unfoldable pub place_comment : ℕ → ℕ → List ℕ
place_comment place word = codes " ; " ++ (five_digits place ++ (codes " " ++ hexadecimal_16 word))

-- a program word on its line, without the line end
unfoldable pub word_line : Profile → ℕ → ℕ → List ℕ
word_line p place word = word_text p word ++ place_comment place word
