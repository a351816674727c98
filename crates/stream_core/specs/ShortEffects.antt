-- What instructions of the short forms come to, part by part, as the code has it. Only private contracts cite this.
use Rattle.std.specs.Prelude.{ℕ, ◌%◌, if◌then◌else◌}
use Rattle.insn_word.specs.declared.short_insns.ShortControl.{ShortControl}
use Rattle.insn_word.specs.declared.short_insns.ShortControl.TheVariants as short
use Rattle.insn_word.specs.declared.short_insns.ReferenceOp.{ReferenceOp}
use Rattle.insn_word.specs.declared.short_insns.ReferenceOp.TheVariants as reference
use Rattle.insn_word.specs.declared.short_insns.ReferencePart.{ReferencePart}
use Rattle.tag_memory.specs.declared.requests.MemOp.{MemOp}
use Rattle.tag_memory.specs.declared.requests.MemOp.TheVariants as op
use Rattle.stream_core.specs.Conditions.{condition_holds}
use Rattle.stream_core.specs.Registers.{register_at}
use Rattle.stream_core.specs.Effects.{code_at, next_pc, skip_pc}
use Rattle.stream_core.specs.Streams.{StreamValue}

-- the pc
abbrev pub pc_after_control : StreamValue → ShortControl → ℕ
pc_after_control s short.Nop = next_pc s.ssw.pc
pc_after_control s (short.Skip cond code n) =
    if condition_holds cond (code_at s.ssw.codes code) then skip_pc s.ssw.pc n else next_pc s.ssw.pc

-- the operation, as the memory takes it
abbrev pub asked_operation : ReferenceOp → MemOp
asked_operation reference.Load = op.Load
asked_operation reference.Store = op.Store
asked_operation reference.FetchAdd = op.Fadd
asked_operation reference.TagGet = op.TagGet
asked_operation reference.TagSet = op.TagSet

-- the value that the memory is handed, 0 where it is handed none
abbrev pub asked_value : StreamValue → ReferencePart → ReferenceOp → ℕ
asked_value s m reference.Load = 0
asked_value s m reference.Store = register_at s.registers m.rd
asked_value s m reference.FetchAdd = register_at s.registers m.rd
asked_value s m reference.TagGet = 0
asked_value s m reference.TagSet = register_at s.registers m.rd % 16
