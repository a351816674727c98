-- What an instruction does to its stream: each operand is read as it stood before, and all is written at once.
use Rattle.std.specs.Prelude.{ℕ, suc, ◌+◌, ◌-◌, ◌*◌, ◌/◌, ◌%◌, ◌^◌, ◌==◌, ℤ, pos, negsuc, unsigned_abs}
use Rattle.std.specs.Prelude.{Bool, List, Option, Some, None, if◌then◌else◌}
use Rattle.insn_word.specs.Words.{memory_destination, arithmetic_destination, control_destination}
use Rattle.insn_word.specs.declared.operations.WideOp.{WideOp}
use Rattle.insn_word.specs.declared.operations.WideOp.TheVariants as wide
use Rattle.insn_word.specs.declared.operations.MemoryOp.{MemoryOp}
use Rattle.insn_word.specs.declared.operations.MemoryOp.TheVariants as memory
use Rattle.insn_word.specs.declared.operations.Access.{Access}
use Rattle.insn_word.specs.declared.operations.Access.TheVariants as access
use Rattle.insn_word.specs.declared.operations.ControlOp.{ControlOp}
use Rattle.insn_word.specs.declared.operations.ControlOp.TheVariants as control
use Rattle.insn_word.specs.declared.insn.MPart.{MPart}
use Rattle.insn_word.specs.declared.insn.APart.{APart}
use Rattle.insn_word.specs.declared.insn.CPart.{CPart}
use Rattle.insn_word.specs.declared.insn.Insn.{Insn}
use Rattle.insn_word.specs.declared.insn.Insn.TheVariants.{Wide, Normal}
use Rattle.tag_memory.specs.declared.requests.Acc.{Acc}
use Rattle.tag_memory.specs.declared.requests.Acc.TheVariants as acc
use Rattle.tag_memory.specs.declared.requests.MemOp.{MemOp}
use Rattle.tag_memory.specs.declared.requests.MemOp.TheVariants as op
use Rattle.tag_memory.specs.declared.requests.Request.{Request}
use Rattle.stream_core.specs.Arithmetic.{result_of, code_of}
use Rattle.stream_core.specs.Conditions.{condition_holds}
use Rattle.stream_core.specs.StatusWords.{with_newest_code, mask_from, status_at, status_from, status_number}
use Rattle.stream_core.specs.Registers.{register_at, with_register, target_at, with_target}
use Rattle.stream_core.specs.Streams.{StreamValue}
use Rattle.stream_core.specs.declared.conditions.Code.{Code}
use Rattle.stream_core.specs.declared.status_words.Codes.{Codes}
use Rattle.stream_core.specs.declared.status_words.StatusWord.{StatusWord}

-- The memory operation.

-- the pointer that lies so many words further; its upper 16 bits stay
abbrev pub displaced_pointer : ℕ → ℤ → ℕ
displaced_pointer p (pos n) = p / 2 ^ 48 * 2 ^ 48 + (p % 2 ^ 48 + 8 * n) % 2 ^ 48
displaced_pointer p (negsuc n) = p / 2 ^ 48 * 2 ^ 48 + (p % 2 ^ 48 + (2 ^ 48 - 8 * suc n)) % 2 ^ 48

-- the access of a request, by the access of the instruction
abbrev pub access_of : Access → Acc
access_of access.FromPointer = acc.FromPointer
access_of access.Normal = acc.Normal
access_of access.Future = acc.Future
access_of access.Sync = acc.Sync

-- the request of a memory operation with this value: its pointer is displaced, its masks are the stream's
abbrev pub request_with : StreamValue → MPart → MemOp → ℕ → Request
request_with s m op value = record {
  op = op;
  pointer = displaced_pointer (register_at s.registers m.base) m.disp;
  acc = access_of m.acc;
  value = value;
  masked = record { trap0 = s.ssw.mask.trap0; trap1 = s.ssw.mask.trap1 };
}

-- the request of each memory operation; NOP makes none
abbrev pub request_by : StreamValue → MPart → MemoryOp → Option Request
request_by s m memory.Nop = None
request_by s m memory.Load = Some (request_with s m op.Load 0)
request_by s m memory.Store = Some (request_with s m op.Store (register_at s.registers m.rd))
request_by s m memory.FetchAdd = Some (request_with s m op.Fadd (register_at s.registers m.rd))
request_by s m memory.TagGet = Some (request_with s m op.TagGet 0)
request_by s m memory.TagSet = Some (request_with s m op.TagSet (register_at s.registers m.rd % 16))
request_by s m memory.Purge = Some (request_with s m op.Purge (register_at s.registers m.rd))

-- what the instruction asks the memory, if anything
unfoldable pub request_of : StreamValue → Insn → Option Request
request_of s (Wide look op reg imm) = None
request_of s (Normal look m a c) = request_by s m m.op

-- a reference that is done has not been blocked
abbrev pub retries_after : MemoryOp → ℕ → ℕ
retries_after memory.Nop n = n
retries_after memory.Load n = 0
retries_after memory.Store n = 0
retries_after memory.FetchAdd n = 0
retries_after memory.TagGet n = 0
retries_after memory.TagSet n = 0
retries_after memory.Purge n = 0

-- The arithmetic operation.

-- the second operand: a number of the word, or a register
abbrev pub second_operand : StreamValue → APart → ℕ
second_operand s a = if a.imm then a.rb else register_at s.registers a.rb

-- the result of the arithmetic operation
abbrev pub arithmetic_value : StreamValue → APart → ℕ
arithmetic_value s a = result_of a.op (register_at s.registers a.ra) (second_operand s a)

-- the pc of the next word
abbrev pub next_pc : ℕ → ℕ
next_pc pc = (pc + 1) % 2 ^ 32

-- the status word that the step would leave, but for the control operation
abbrev pub ssw_before_control : StreamValue → APart → StatusWord
ssw_before_control s a = record s.ssw {
  pc = next_pc s.ssw.pc;
  codes =
      if a.test then with_newest_code (code_of a.op (register_at s.registers a.ra) (second_operand s a)) s.ssw.codes
      else s.ssw.codes;
}

-- The control operation; l is the status word that the step would leave.

-- the condition code of this place, 0 for the newest
abbrev pub code_at : Codes → ℕ → Code
code_at cs k = if k == 0 then cs.newest else if k == 1 then cs.second else if k == 2 then cs.third else cs.oldest

-- the pc so many words past the next one
abbrev pub skip_pc : ℕ → ℤ → ℕ
skip_pc pc (pos n) = (pc + 1 + n) % 2 ^ 32
skip_pc pc (negsuc n) = (pc + 1 + (2 ^ 32 - suc n)) % 2 ^ 32

-- whether the condition of the control operation holds
abbrev pub control_holds : StreamValue → CPart → Bool
control_holds s c = condition_holds c.cond (code_at s.ssw.codes c.code)

-- the status word
abbrev pub control_ssw : StreamValue → CPart → ControlOp → StatusWord → StatusWord
control_ssw s c control.Nop l = l
control_ssw s c control.Jump l = if control_holds s c then record l { pc = (target_at s.targets c.t).pc } else l
control_ssw s c control.Skip l = if control_holds s c then record l { pc = skip_pc s.ssw.pc c.n } else l
control_ssw s c control.Call l = record l { pc = (target_at s.targets c.t).pc }
control_ssw s c control.Exchange l = target_at s.targets c.t
control_ssw s c control.TargetSet l = l
control_ssw s c control.TargetGet l = l
control_ssw s c control.TrapGet l = l
control_ssw s c control.Reserve l = l
control_ssw s c control.Create l = l
control_ssw s c control.Quit l = l
control_ssw s c control.QuitKeep l = l
control_ssw s c control.Mask l = record l { mask = mask_from (unsigned_abs c.n) }

-- the target registers
abbrev pub control_targets : StreamValue → CPart → ControlOp → StatusWord → List StatusWord
control_targets s c control.Nop l = s.targets
control_targets s c control.Jump l = s.targets
control_targets s c control.Skip l = s.targets
control_targets s c control.Call l = with_target s.targets c.u (status_at l.pc)
control_targets s c control.Exchange l = with_target s.targets c.t l
control_targets s c control.TargetSet l = with_target s.targets c.t (status_from (register_at s.registers c.ra))
control_targets s c control.TargetGet l = s.targets
control_targets s c control.TrapGet l = s.targets
control_targets s c control.Reserve l = s.targets
control_targets s c control.Create l = s.targets
control_targets s c control.Quit l = s.targets
control_targets s c control.QuitKeep l = s.targets
control_targets s c control.Mask l = s.targets

-- what goes to rd
abbrev pub control_value : StreamValue → CPart → ControlOp → ℕ → ℕ
control_value s c control.Nop grant = 0
control_value s c control.Jump grant = 0
control_value s c control.Skip grant = 0
control_value s c control.Call grant = 0
control_value s c control.Exchange grant = 0
control_value s c control.TargetSet grant = 0
control_value s c control.TargetGet grant = status_number (target_at s.targets c.t)
control_value s c control.TrapGet grant = s.xr
control_value s c control.Reserve grant = grant
control_value s c control.Create grant = 0
control_value s c control.Quit grant = 0
control_value s c control.QuitKeep grant = 0
control_value s c control.Mask grant = 0

-- All of it.

-- the registers, where the memory answers a number, and a reserve is granted one
abbrev pub registers_after : StreamValue → MPart → APart → CPart → ℕ → ℕ → List ℕ
registers_after s m a c value grant =
    with_register (with_register (with_register s.registers
    (memory_destination m.op m.rd) value)
    (arithmetic_destination a.op a.rd) (arithmetic_value s a))
    (control_destination c.op c.rd) (control_value s c c.op grant)

-- the stream after a word of up to three operations, given the memory's number and the grant
abbrev pub after_parts : StreamValue → MPart → APart → CPart → ℕ → ℕ → StreamValue
after_parts s m a c value grant = record s {
  registers = registers_after s m a c value grant;
  targets = control_targets s c c.op (ssw_before_control s a);
  ssw = control_ssw s c c.op (ssw_before_control s a);
  retries = retries_after m.op s.retries;
}

-- the stream after a wide word
abbrev pub after_wide : StreamValue → WideOp → ℕ → ℕ → StreamValue
after_wide s wide.Literal reg imm = record s {
  registers = with_register s.registers reg imm;
  ssw = record s.ssw { pc = next_pc s.ssw.pc };
}
after_wide s wide.LiteralHigh reg imm = record s {
  registers = with_register s.registers reg (imm * 2 ^ 32 + register_at s.registers reg % 2 ^ 32);
  ssw = record s.ssw { pc = next_pc s.ssw.pc };
}
after_wide s wide.TargetLiteral reg imm = record s {
  targets = with_target s.targets reg (status_at imm);
  ssw = record s.ssw { pc = next_pc s.ssw.pc };
}

-- the stream after the instruction
unfoldable pub after_instruction : StreamValue → Insn → ℕ → ℕ → StreamValue
after_instruction s (Wide look op reg imm) value grant = after_wide s op reg imm
after_instruction s (Normal look m a c) value grant = after_parts s m a c value grant
