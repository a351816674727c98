-- The instructions of the two short forms: which instruction each is.
use Rattle.insn_word.specs.Words.{memory_nop, arithmetic_nop, only_control}
use Rattle.insn_word.specs.declared.operations.MemoryOp.{MemoryOp}
use Rattle.insn_word.specs.declared.operations.MemoryOp.TheVariants as memory
use Rattle.insn_word.specs.declared.operations.ControlOp.TheVariants as control
use Rattle.insn_word.specs.declared.insn.MPart.{MPart}
use Rattle.insn_word.specs.declared.insn.CPart.{CPart}
use Rattle.insn_word.specs.declared.insn.Insn.{Insn}
use Rattle.insn_word.specs.declared.insn.Insn.TheVariants as insn
use Rattle.insn_word.specs.declared.short_insns.ShortControl.{ShortControl}
use Rattle.insn_word.specs.declared.short_insns.ShortControl.TheVariants as short
use Rattle.insn_word.specs.declared.short_insns.ShortInsn.{ShortInsn}
use Rattle.insn_word.specs.declared.short_insns.ReferenceOp.{ReferenceOp}
use Rattle.insn_word.specs.declared.short_insns.ReferenceOp.TheVariants as reference
use Rattle.insn_word.specs.declared.short_insns.ReferencePart.{ReferencePart}
use Rattle.insn_word.specs.declared.short_insns.ReferenceInsn.{ReferenceInsn}

-- The parts.

abbrev pub short_control_part : ShortControl → CPart
short_control_part short.Nop = only_control control.Nop
short_control_part (short.Skip cond code n) = record (only_control control.Skip) { cond = cond; code = code; n = n }

abbrev pub reference_operation : ReferenceOp → MemoryOp
reference_operation reference.Load = memory.Load
reference_operation reference.Store = memory.Store
reference_operation reference.FetchAdd = memory.FetchAdd
reference_operation reference.TagGet = memory.TagGet
reference_operation reference.TagSet = memory.TagSet

abbrev pub reference_part : ReferencePart → MPart
reference_part m = record { op = reference_operation m.op; acc = m.acc; rd = m.rd; base = m.base; disp = m.disp }

-- The instructions.

abbrev pub short_instruction : ShortInsn → Insn
short_instruction s = insn.Normal s.look memory_nop s.a (short_control_part s.c)

abbrev pub reference_instruction : ReferenceInsn → Insn
reference_instruction r = insn.Normal r.look (reference_part r.m) arithmetic_nop (short_control_part r.c)
