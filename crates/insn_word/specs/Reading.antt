-- The instruction that a word spells, by computing: each field is read, what the operation doesn't use is cleared,
-- and the result counts where it is spelt by the word again. Definitions that fold over runs go by it.
use Rattle.std.specs.Prelude.{◌≡◌, ◌↔◌, ℕ, ◌-◌, ◌/◌, ◌%◌, ◌^◌, ◌==◌, ℤ, pos, negsuc}
use Rattle.std.specs.Prelude.{Bool, true, not, ◌&&◌, ◌||◌, nat_lt, if◌then◌else◌}
use Rattle.std.specs.Prelude.{Option, Some, None, slice_index_or}
use Rattle.insn_word.specs.Fields.{number_of_fields}
use Rattle.insn_word.specs.Operations.{wide_operations, memory_operations, accesses, arithmetic_operations}
use Rattle.insn_word.specs.Operations.{control_operations, conditions}
use Rattle.insn_word.specs.Words.{fields, used_memory, used_arithmetic, only_control, is_in, SpellsIn}
use Rattle.insn_word.specs.Words.{memory_destination, arithmetic_destination, control_destination}
use Rattle.insn_word.specs.declared.operations.WideOp.{WideOp}
use Rattle.insn_word.specs.declared.operations.WideOp.TheVariants as wide
use Rattle.insn_word.specs.declared.operations.MemoryOp.{MemoryOp}
use Rattle.insn_word.specs.declared.operations.MemoryOp.TheVariants as memory
use Rattle.insn_word.specs.declared.operations.Access.{Access}
use Rattle.insn_word.specs.declared.operations.Access.TheVariants as access
use Rattle.insn_word.specs.declared.operations.ArithmeticOp.{ArithmeticOp}
use Rattle.insn_word.specs.declared.operations.ArithmeticOp.TheVariants as arithmetic
use Rattle.insn_word.specs.declared.operations.ControlOp.{ControlOp}
use Rattle.insn_word.specs.declared.operations.ControlOp.TheVariants as control
use Rattle.insn_word.specs.declared.operations.Condition.{Condition}
use Rattle.insn_word.specs.declared.operations.Condition.TheVariants as condition
use Rattle.insn_word.specs.declared.profiles.Profile.{Profile}
use Rattle.insn_word.specs.declared.profiles.Profile.TheVariants as profile
use Rattle.insn_word.specs.declared.insn.MPart.{MPart}
use Rattle.insn_word.specs.declared.insn.APart.{APart}
use Rattle.insn_word.specs.declared.insn.CPart.{CPart}
use Rattle.insn_word.specs.declared.insn.Insn.{Insn}
use Rattle.insn_word.specs.declared.insn.Insn.TheVariants as insn

-- The operation of a number. A number past the end reads as the first one, which the test at the end refuses.

-- the wide operation of a number
abbrev pub wide_read : ℕ → WideOp
wide_read n = slice_index_or wide_operations n wide.Literal

-- the memory operation of a number
abbrev pub memory_read : ℕ → MemoryOp
memory_read n = slice_index_or memory_operations n memory.Nop

-- the access of a number
abbrev pub access_read : ℕ → Access
access_read n = slice_index_or accesses n access.FromPointer

-- the arithmetic operation of a number
abbrev pub arithmetic_read : ℕ → ArithmeticOp
arithmetic_read n = slice_index_or arithmetic_operations n arithmetic.Nop

-- the control operation of a number
abbrev pub control_read : ℕ → ControlOp
control_read n = slice_index_or control_operations n control.Nop

-- the condition of a number
abbrev pub condition_read : ℕ → Condition
condition_read n = slice_index_or conditions n condition.Always

-- the number that k digits say in two's complement
abbrev pub signed_read : ℕ → ℕ → ℤ
signed_read k n = if nat_lt n (2 ^ (k - 1)) then pos n else negsuc (2 ^ k - 1 - n)

-- Parts and words.

-- a memory part as its 21 digits say it, together with what its operation doesn't use
abbrev pub memory_raw : ℕ → MPart
memory_raw bits = record {
  op = memory_read (bits / 2 ^ 18 % 2 ^ 3);
  acc = access_read (bits / 2 ^ 16 % 2 ^ 2);
  rd = bits / 2 ^ 11 % 2 ^ 5;
  base = bits / 2 ^ 6 % 2 ^ 5;
  disp = signed_read 6 (bits % 2 ^ 6);
}

-- an arithmetic part as its 21 digits say it, together with what its operation doesn't use
abbrev pub arithmetic_raw : ℕ → APart
arithmetic_raw bits = record {
  op = arithmetic_read (bits / 2 ^ 17 % 2 ^ 4);
  test = bits / 2 ^ 16 % 2 == 1;
  imm = bits / 2 ^ 15 % 2 == 1;
  rd = bits / 2 ^ 10 % 2 ^ 5;
  ra = bits / 2 ^ 5 % 2 ^ 5;
  rb = bits % 2 ^ 5;
}

-- the control operation with its arguments
abbrev pub control_part_from : ControlOp → ℕ → CPart
control_part_from control.Nop bits = only_control control.Nop
control_part_from control.Jump bits = record (only_control control.Jump) {
  cond = condition_read (bits / 2 ^ 10 % 2 ^ 4);
  code = bits / 2 ^ 8 % 2 ^ 2;
  t = bits / 2 ^ 5 % 2 ^ 3;
}
control_part_from control.Skip bits = record (only_control control.Skip) {
  cond = condition_read (bits / 2 ^ 10 % 2 ^ 4);
  code = bits / 2 ^ 8 % 2 ^ 2;
  n = signed_read 8 (bits % 2 ^ 8);
}
control_part_from control.Call bits = record (only_control control.Call) {
  t = bits / 2 ^ 11 % 2 ^ 3;
  u = bits / 2 ^ 8 % 2 ^ 3;
}
control_part_from control.Exchange bits = record (only_control control.Exchange) { t = bits / 2 ^ 11 % 2 ^ 3 }
control_part_from control.TargetSet bits = record (only_control control.TargetSet) {
  t = bits / 2 ^ 11 % 2 ^ 3;
  ra = bits / 2 ^ 6 % 2 ^ 5;
}
control_part_from control.TargetGet bits = record (only_control control.TargetGet) {
  t = bits / 2 ^ 11 % 2 ^ 3;
  rd = bits / 2 ^ 6 % 2 ^ 5;
}
control_part_from control.TrapGet bits = record (only_control control.TrapGet) { rd = bits / 2 ^ 6 % 2 ^ 5 }
control_part_from control.Reserve bits = record (only_control control.Reserve) {
  rd = bits / 2 ^ 6 % 2 ^ 5;
  ra = bits / 2 ^ 1 % 2 ^ 5;
}
control_part_from control.Create bits = record (only_control control.Create) {
  t = bits / 2 ^ 11 % 2 ^ 3;
  ra = bits / 2 ^ 6 % 2 ^ 5;
}
control_part_from control.Quit bits = only_control control.Quit
control_part_from control.QuitKeep bits = only_control control.QuitKeep
control_part_from control.Mask bits = record (only_control control.Mask) { n = pos (bits / 2 ^ 11 % 2 ^ 3) }

-- the memory part of these digits, with only what its operation uses
abbrev pub memory_part_at : ℕ → MPart
memory_part_at bits = used_memory (memory_raw bits).op (memory_raw bits)

-- the arithmetic part of these digits, with only what its operation uses
abbrev pub arithmetic_part_at : ℕ → APart
arithmetic_part_at bits = used_arithmetic (arithmetic_raw bits).op (arithmetic_raw bits)

-- the control part of these 18 digits
abbrev pub control_part_at : ℕ → CPart
control_part_at bits = control_part_from (control_read (bits / 2 ^ 14 % 2 ^ 4)) bits

-- there are 8 target registers
abbrev pub register_from : WideOp → ℕ → ℕ
register_from wide.Literal reg = reg
register_from wide.LiteralHigh reg = reg
register_from wide.TargetLiteral reg = reg % 2 ^ 3

-- what a wide word says whose operation is known
abbrev pub wide_from : WideOp → ℕ → Insn
wide_from op word = insn.Wide (word / 2 ^ 60 % 2 ^ 3) op (register_from op (word / 2 ^ 52 % 2 ^ 5)) (word % 2 ^ 32)

-- what a word says that is read as a wide one
abbrev pub wide_at : ℕ → Insn
wide_at word = wide_from (wide_read (word / 2 ^ 57 % 2 ^ 3)) word

-- what a word says that is read as a normal one
abbrev pub normal_at : ℕ → Insn
normal_at word =
    insn.Normal (word / 2 ^ 60 % 2 ^ 3)
    (memory_part_at (word / 2 ^ 39 % 2 ^ 21))
    (arithmetic_part_at (word / 2 ^ 18 % 2 ^ 21))
    (control_part_at (word % 2 ^ 18))

-- all fields read, whether or not the word spells an instruction
unfoldable pub candidate : ℕ → Insn
candidate word = if nat_lt word (2 ^ 63) then normal_at word else wide_at word

-- whether two destinations are different registers, or both r0
abbrev pub are_apart : ℕ → ℕ → Bool
are_apart x y = not (x == y) || (x == 0)

-- whether no two parts of an instruction write one register other than r0
abbrev pub has_one_writer : Insn → Bool
has_one_writer (insn.Wide look op reg imm) = true
has_one_writer (insn.Normal look m a c) =
    are_apart (memory_destination m.op m.rd) (arithmetic_destination a.op a.rd)
    && are_apart (memory_destination m.op m.rd) (control_destination c.op c.rd)
    && are_apart (arithmetic_destination a.op a.rd) (control_destination c.op c.rd)

-- whether the word spells what was read of it
abbrev pub reads_back : Profile → ℕ → Insn → Bool
reads_back p word i = number_of_fields (fields i) == word && has_one_writer i && is_in p i

-- an instruction where it counts, else none
abbrev pub kept_if : Bool → Insn → Option Insn
kept_if keep i = if keep then Some i else None

-- the instruction that the word spells in this profile, if any
unfoldable pub instruction_in : Profile → ℕ → Option Insn
instruction_in p word = kept_if (reads_back p word (candidate word)) (candidate word)

-- the same in Profile 1
abbrev pub instruction : ℕ → Option Insn
instruction = instruction_in profile.One

-- It is the instruction that the word's digits spell.
abbrev pub InstructionIsSpelt : Type 0
InstructionIsSpelt = (p : Profile) (word : ℕ) (i : Insn) → (instruction_in p word ≡ Some i) ↔ SpellsIn p word i
