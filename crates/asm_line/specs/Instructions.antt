-- What an instruction says: operations of different parts in their order, and before them perhaps the lookahead.
use Rattle.std.specs.Prelude.{ℕ, ◌==◌, Bool, true, false, ◌&&◌, if◌then◌else◌}
use Rattle.std.specs.Prelude.{List, [], ◌∷◌, map, drop, slice_index, Result, Ok, Err}
use Rattle.std.specs.List.{list_all}
use Rattle.insn_word.specs.Words.{memory_nop, arithmetic_nop, only_control}
use Rattle.insn_word.specs.Words.{memory_destination, arithmetic_destination, control_destination}
use Rattle.insn_word.specs.Reading.{are_apart}
use Rattle.insn_word.specs.declared.operations.ControlOp.TheVariants as control
use Rattle.insn_word.specs.declared.profiles.Profile.{Profile}
use Rattle.insn_word.specs.declared.insn.MPart.{MPart}
use Rattle.insn_word.specs.declared.insn.APart.{APart}
use Rattle.insn_word.specs.declared.insn.CPart.{CPart}
use Rattle.insn_word.specs.declared.insn.Insn.{Insn}
use Rattle.insn_word.specs.declared.insn.Insn.TheVariants as insn
use Rattle.asm_line.specs.Text.{trim, head, behind_head, operands}
use Rattle.text_parts.specs.Pieces.{pieces}
use Rattle.asm_line.specs.Faults.{map_ok, ◌>>=◌, both}
use Rattle.asm_line.specs.Numbers.{number_within}
use Rattle.asm_line.specs.Heads.{operation_of}
use Rattle.asm_line.specs.Operands.{Places}
use Rattle.asm_line.specs.Parts.{wide_word, memory_part, arithmetic_part, control_part}
use Rattle.asm_line.specs.declared.fault.Fault.{Fault}
use Rattle.asm_line.specs.declared.fault.Fault.TheVariants as fault
use Rattle.asm_line.specs.declared.operation.Operation.{Operation}
use Rattle.asm_line.specs.declared.operation.Operation.TheVariants as operation

-- the control part that controls nothing
abbrev pub no_operation : CPart
no_operation = only_control control.Nop

-- a word with a memory operation alone
abbrev pub memory_word : MPart → Insn
memory_word m = insn.Normal 0 m arithmetic_nop no_operation

-- a word with an arithmetic operation alone
abbrev pub arithmetic_word : APart → Insn
arithmetic_word a = insn.Normal 0 memory_nop a no_operation

-- a word with a control operation alone
abbrev pub control_word : CPart → Insn
control_word c = insn.Normal 0 memory_nop arithmetic_nop c

-- NOP stands without operands
abbrev pub nop_word : List (List ℕ) → Result Insn Fault
nop_word [] = Ok (insn.Normal 0 memory_nop arithmetic_nop no_operation)
nop_word _ = Err fault.Operand

-- one operation
unfoldable pub single : Places → ℕ → Operation → List (List ℕ) → Result Insn Fault
single places here operation.Nop ops = nop_word ops
single places here (operation.Wide op) ops = wide_word places op ops
single places here (operation.Memory op acc) ops = map_ok memory_word (memory_part op acc ops)
single places here (operation.Arithmetic op test) ops = map_ok arithmetic_word (arithmetic_part op test ops)
single places here (operation.Control op) ops = map_ok control_word (control_part places here op ops)

-- No two parts write the same register other than r0.

-- whether a memory and an arithmetic part write no register both, other than r0
abbrev pub memory_arithmetic_apart : MPart → APart → Bool
memory_arithmetic_apart m a = are_apart (memory_destination m.op m.rd) (arithmetic_destination a.op a.rd)

-- whether a memory and a control part write no register both, other than r0
abbrev pub memory_control_apart : MPart → CPart → Bool
memory_control_apart m c = are_apart (memory_destination m.op m.rd) (control_destination c.op c.rd)

-- whether an arithmetic and a control part write no register both, other than r0
abbrev pub arithmetic_control_apart : APart → CPart → Bool
arithmetic_control_apart a c = are_apart (arithmetic_destination a.op a.rd) (control_destination c.op c.rd)

-- what parts make that are apart; others are two writers of one register
abbrev pub unless_two : {A : Type 0} → Bool → A → Result A Fault
unless_two apart x = if apart then Ok x else Err fault.TwoWriters

-- Two writers are seen before a label that stands on no line: only SKIP asks for one, and it writes nothing.

-- a memory and an arithmetic part, which have to be apart
abbrev pub memory_arithmetic : Result MPart Fault → Result APart Fault → Result (MPart × APart) Fault
memory_arithmetic m a = both m a >>= λ v. unless_two (memory_arithmetic_apart v.0 v.1) v

-- a word with a memory and an arithmetic operation
unfoldable pub memory_arithmetic_word : Result MPart Fault → Result APart Fault → Result Insn Fault
memory_arithmetic_word m a = map_ok (λ v. insn.Normal 0 v.0 v.1 no_operation) (memory_arithmetic m a)

-- a word with a memory and a control operation
unfoldable pub memory_control_word : Result MPart Fault → Result CPart Fault → Result Insn Fault
memory_control_word m c =
    both m c >>= λ v. unless_two (memory_control_apart v.0 v.1) (insn.Normal 0 v.0 arithmetic_nop v.1)

-- a word with an arithmetic and a control operation
unfoldable pub arithmetic_control_word : Result APart Fault → Result CPart Fault → Result Insn Fault
arithmetic_control_word a c =
    both a c >>= λ v. unless_two (arithmetic_control_apart v.0 v.1) (insn.Normal 0 memory_nop v.0 v.1)

-- a word with an operation in each of its three parts
unfoldable pub full_word : Result MPart Fault → Result APart Fault → Result CPart Fault → Result Insn Fault
full_word m a c =
    both (memory_arithmetic m a) c
    >>= λ v. unless_two (memory_control_apart v.0.0 v.1 && arithmetic_control_apart v.0.1 v.1)
    (insn.Normal 0 v.0.0 v.0.1 v.1)

-- Two operations: a memory operation and then an arithmetic or a control one, or an arithmetic one and then a control
-- one.

-- a memory part and the operation behind it
abbrev pub memory_and : Places → ℕ → Result MPart Fault → Operation → List (List ℕ) → Result Insn Fault
memory_and places here m operation.Nop ys = Err fault.Operand
memory_and places here m (operation.Wide p) ys = Err fault.Operand
memory_and places here m (operation.Memory p acc) ys = Err fault.Operand
memory_and places here m (operation.Arithmetic p test) ys = memory_arithmetic_word m (arithmetic_part p test ys)
memory_and places here m (operation.Control p) ys = memory_control_word m (control_part places here p ys)

-- an arithmetic part and the operation behind it
abbrev pub arithmetic_and : Places → ℕ → Result APart Fault → Operation → List (List ℕ) → Result Insn Fault
arithmetic_and places here a operation.Nop ys = Err fault.Operand
arithmetic_and places here a (operation.Wide p) ys = Err fault.Operand
arithmetic_and places here a (operation.Memory p acc) ys = Err fault.Operand
arithmetic_and places here a (operation.Arithmetic p test) ys = Err fault.Operand
arithmetic_and places here a (operation.Control p) ys = arithmetic_control_word a (control_part places here p ys)

-- two operations with the operands of each
unfoldable pub double : Places → ℕ → Operation → Operation → List (List ℕ) → List (List ℕ) → Result Insn Fault
double places here operation.Nop p xs ys = Err fault.Operand
double places here (operation.Wide o) p xs ys = Err fault.Operand
double places here (operation.Memory o acc) p xs ys = memory_and places here (memory_part o acc xs) p ys
double places here (operation.Arithmetic o test) p xs ys = arithmetic_and places here (arithmetic_part o test xs) p ys
double places here (operation.Control o) p xs ys = Err fault.Operand

-- Three operations: a memory, an arithmetic and a control one.

-- a memory part, an arithmetic one, and the operation behind them
abbrev pub both_and : Places → ℕ → Result MPart Fault → Result APart Fault → Operation → List (List ℕ)
    → Result Insn Fault
both_and places here m a operation.Nop zs = Err fault.Operand
both_and places here m a (operation.Wide q) zs = Err fault.Operand
both_and places here m a (operation.Memory q acc) zs = Err fault.Operand
both_and places here m a (operation.Arithmetic q test) zs = Err fault.Operand
both_and places here m a (operation.Control q) zs = full_word m a (control_part places here q zs)

-- a memory part and the two operations behind it
abbrev pub memory_and_two : Places → ℕ → Result MPart Fault → Operation → Operation → List (List ℕ) → List (List ℕ)
    → Result Insn Fault
memory_and_two places here m operation.Nop q ys zs = Err fault.Operand
memory_and_two places here m (operation.Wide p) q ys zs = Err fault.Operand
memory_and_two places here m (operation.Memory p acc) q ys zs = Err fault.Operand
memory_and_two places here m (operation.Arithmetic p test) q ys zs =
    both_and places here m (arithmetic_part p test ys) q zs
memory_and_two places here m (operation.Control p) q ys zs = Err fault.Operand

-- three operations with the operands of each
unfoldable pub triple : Places → ℕ → Operation → Operation → Operation
    → List (List ℕ) → List (List ℕ) → List (List ℕ) → Result Insn Fault
triple places here operation.Nop p q xs ys zs = Err fault.Operand
triple places here (operation.Wide o) p q xs ys zs = Err fault.Operand
triple places here (operation.Memory o acc) p q xs ys zs =
    memory_and_two places here (memory_part o acc xs) p q ys zs
triple places here (operation.Arithmetic o test) p q xs ys zs = Err fault.Operand
triple places here (operation.Control o) p q xs ys zs = Err fault.Operand

-- whether a result is no fault
abbrev pub is_ok : {A : Type 0} → Result A Fault → Bool
is_ok (Ok _) = true
is_ok (Err _) = false

-- more parts than there can be: an unknown head among them is answered first
unfoldable pub too_many : Profile → List (List ℕ) → Result Insn Fault
too_many p texts =
    if list_all (λ text. is_ok (operation_of p (head text))) texts then Err fault.Operand else Err fault.Unknown

-- All heads are looked at first.

-- a text of one operation
abbrev pub one_part : Profile → Places → ℕ → List ℕ → Result Insn Fault
one_part p places here x = operation_of p (head x) >>= λ o. single places here o (operands x)

-- the texts of two operations
abbrev pub two_parts : Profile → Places → ℕ → List ℕ → List ℕ → Result Insn Fault
two_parts p places here x y =
    both (operation_of p (head x)) (operation_of p (head y))
    >>= λ o. double places here o.0 o.1 (operands x) (operands y)

-- the texts of three operations
abbrev pub three_parts : Profile → Places → ℕ → List ℕ → List ℕ → List ℕ → Result Insn Fault
three_parts p places here x y z =
    both (both (operation_of p (head x)) (operation_of p (head y))) (operation_of p (head z))
    >>= λ o. triple places here o.0.0 o.0.1 o.1 (operands x) (operands y) (operands z)

-- the instruction of the texts of its operations, one to three
abbrev pub instruction_of : Profile → Places → ℕ → List (List ℕ) → Result Insn Fault
instruction_of p places here (x ∷ []) = one_part p places here x
instruction_of p places here (x ∷ y ∷ []) = two_parts p places here x y
instruction_of p places here (x ∷ y ∷ z ∷ []) = three_parts p places here x y z
instruction_of p places here texts = too_many p texts

-- the operations, separated by |
unfoldable pub operations : Profile → Places → ℕ → List ℕ → Result Insn Fault
operations p places here text = instruction_of p places here (map trim (pieces 124 text))

-- an instruction with this lookahead
abbrev pub with_lookahead : ℕ → Insn → Insn
with_lookahead n (insn.Wide look op reg imm) = insn.Wide n op reg imm
with_lookahead n (insn.Normal look m a c) = insn.Normal n m a c

-- @n, a blank and then the operations; with no @n the lookahead is 0
unfoldable pub instruction_of_text : Profile → Places → ℕ → List ℕ → Result Insn Fault
instruction_of_text p places here text =
    if slice_index text 0 == 64
    then map_ok (λ v. with_lookahead v.0 v.1)
    (both (number_within 7 (drop 1 (head text))) (operations p places here (behind_head text)))
    else operations p places here text
