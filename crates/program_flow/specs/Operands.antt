-- Which registers an instruction reads and which it writes. r0 stands where an operation reads or writes none: it is
-- zero whoever reads it, and what is written to it is lost.
use Rattle.std.specs.Prelude.{ℕ, List, [], ◌∷◌, if◌then◌else◌}
use Rattle.insn_word.specs.Words.{memory_destination, arithmetic_destination, control_destination}
use Rattle.insn_word.specs.declared.operations.WideOp.{WideOp}
use Rattle.insn_word.specs.declared.operations.WideOp.TheVariants as wide
use Rattle.insn_word.specs.declared.operations.MemoryOp.{MemoryOp}
use Rattle.insn_word.specs.declared.operations.MemoryOp.TheVariants as memory
use Rattle.insn_word.specs.declared.insn.APart.{APart}
use Rattle.insn_word.specs.declared.insn.Insn.{Insn}
use Rattle.insn_word.specs.declared.insn.Insn.TheVariants.{Wide, Normal}

-- the register that a memory operation reads beside its base: rd, where it takes something along
abbrev pub memory_source : MemoryOp → ℕ → ℕ
memory_source memory.Nop rd = 0
memory_source memory.Load rd = 0
memory_source memory.Store rd = rd
memory_source memory.FetchAdd rd = rd
memory_source memory.TagGet rd = 0
memory_source memory.TagSet rd = rd
memory_source memory.Purge rd = rd

-- the register of the second operand, where it is no number
abbrev pub second_source : APart → ℕ
second_source a = if a.imm then 0 else a.rb

-- the register that a wide operation reads: LITH keeps the low half of its own
abbrev pub wide_source : WideOp → ℕ → ℕ
wide_source wide.Literal reg = 0
wide_source wide.LiteralHigh reg = reg
wide_source wide.TargetLiteral reg = 0

-- the register that a wide operation writes
abbrev pub wide_destination : WideOp → ℕ → ℕ
wide_destination wide.Literal reg = reg
wide_destination wide.LiteralHigh reg = reg
wide_destination wide.TargetLiteral reg = 0

-- the registers that an instruction reads
abbrev pub registers_read : Insn → List ℕ
registers_read (Wide look op reg imm) = wide_source op reg ∷ []
registers_read (Normal look m a c) = m.base ∷ memory_source m.op m.rd ∷ a.ra ∷ second_source a ∷ c.ra ∷ []

-- the registers that an instruction writes where it is done
abbrev pub registers_written : Insn → List ℕ
registers_written (Wide look op reg imm) = wide_destination op reg ∷ []
registers_written (Normal look m a c) =
    memory_destination m.op m.rd ∷ arithmetic_destination a.op a.rd ∷ control_destination c.op c.rd ∷ []
