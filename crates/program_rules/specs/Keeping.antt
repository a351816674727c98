-- When the program of an image keeps a rule.
use Rattle.std.specs.Prelude.{ℕ, ◌==◌, nat_le, Bool, false, not, List, length, Option, Some, None}
use Rattle.std.specs.List.{list_any}
use Rattle.insn_word.specs.Operations.{wide_number, memory_number, arithmetic_number, control_number}
use Rattle.insn_word.specs.Reading.{instruction_in}
use Rattle.insn_word.specs.declared.operations.WideOp.{WideOp}
use Rattle.insn_word.specs.declared.operations.MemoryOp.{MemoryOp}
use Rattle.insn_word.specs.declared.operations.ArithmeticOp.{ArithmeticOp}
use Rattle.insn_word.specs.declared.operations.ControlOp.{ControlOp}
use Rattle.insn_word.specs.declared.profiles.Profile.{Profile}
use Rattle.insn_word.specs.declared.insn.Insn.{Insn}
use Rattle.insn_word.specs.declared.insn.Insn.TheVariants as insn
use Rattle.image_file.specs.ImageValue.{ImageValue}
use Rattle.program_rules.specs.declared.program_rule.ProgramOperation.{ProgramOperation}
use Rattle.program_rules.specs.declared.program_rule.ProgramOperation.TheVariants as operation
use Rattle.program_rules.specs.declared.program_rule.ProgramRule.{ProgramRule}
use Rattle.program_rules.specs.declared.program_rule.ProgramRule.TheVariants as rule

-- Whether an instruction has an operation: a wide word has one, a normal one has one of each other kind.

abbrev pub is_wide : WideOp → Insn → Bool
is_wide o (insn.Wide look op reg imm) = wide_number op == wide_number o
is_wide o (insn.Normal look m a c) = false

abbrev pub is_memory : MemoryOp → Insn → Bool
is_memory o (insn.Wide look op reg imm) = false
is_memory o (insn.Normal look m a c) = memory_number m.op == memory_number o

abbrev pub is_arithmetic : ArithmeticOp → Insn → Bool
is_arithmetic o (insn.Wide look op reg imm) = false
is_arithmetic o (insn.Normal look m a c) = arithmetic_number a.op == arithmetic_number o

abbrev pub is_control : ControlOp → Insn → Bool
is_control o (insn.Wide look op reg imm) = false
is_control o (insn.Normal look m a c) = control_number c.op == control_number o

abbrev pub has_operation : ProgramOperation → Insn → Bool
has_operation (operation.Wide o) i = is_wide o i
has_operation (operation.Memory o) i = is_memory o i
has_operation (operation.Arithmetic o) i = is_arithmetic o i
has_operation (operation.Control o) i = is_control o i

-- the same of what a word spells, if it spells something
abbrev pub has_it : ProgramOperation → Option Insn → Bool
has_it o None = false
has_it o (Some i) = has_operation o i

-- whether a word spells an instruction of this profile that has an operation
abbrev pub spells : Profile → ProgramOperation → ℕ → Bool
spells p o word = has_it o (instruction_in p word)

-- whether some program word of an image does
abbrev pub is_spelt : ImageValue → ProgramOperation → Bool
is_spelt i o = list_any (spells i.profile o) i.program

-- whether the program of an image keeps a rule
abbrev pub is_kept : ImageValue → ProgramRule → Bool
is_kept i (rule.Entries count) = length i.entries == count
is_kept i (rule.AtMostWords most) = nat_le (length i.program) most
is_kept i (rule.Forbid o) = not (is_spelt i o)
is_kept i (rule.Require o) = is_spelt i o
