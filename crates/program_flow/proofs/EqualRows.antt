-- A step of a stream sees no register that its instruction does not read.
use Rattle.std.proofs.Common.{◌≡◌, ℕ, ◌+◌, ◌*◌, ◌%◌, ◌^◌, ◌==◌, Bool, true, false, refl, ap, ◌∙◌, List, Option, Some, None}
use Rattle.std.proofs.Common.{if◌then◌else◌, nat_lt}
use Rattle.insn_word.specs.Words.{memory_destination, arithmetic_destination, control_destination}
use Rattle.insn_word.specs.declared.operations.WideOp.TheVariants as wide
use Rattle.insn_word.specs.declared.operations.MemoryOp.{MemoryOp}
use Rattle.insn_word.specs.declared.operations.MemoryOp.TheVariants as memory
use Rattle.insn_word.specs.declared.operations.ControlOp.{ControlOp}
use Rattle.insn_word.specs.declared.operations.ControlOp.TheVariants as control
use Rattle.insn_word.specs.declared.insn.MPart.{MPart}
use Rattle.insn_word.specs.declared.insn.CPart.{CPart}
use Rattle.insn_word.specs.declared.insn.Insn.{Insn}
use Rattle.insn_word.specs.declared.insn.Insn.TheVariants.{Wide, Normal}
use Rattle.tag_memory.specs.declared.requests.MemOp.{MemOp}
use Rattle.tag_memory.specs.declared.requests.MemOp.TheVariants as op
use Rattle.tag_memory.specs.declared.requests.Request.{Request}
use Rattle.tag_memory.specs.declared.requests.Reply.{Reply}
use Rattle.tag_memory.specs.declared.requests.Reply.TheVariants as reply
use Rattle.stream_core.specs.Arithmetic.{result_of, code_of}
use Rattle.stream_core.specs.StatusWords.{status_from, with_newest_code}
use Rattle.stream_core.specs.Registers.{register_at, with_register, target_at, with_target}
use Rattle.stream_core.specs.Traps.{memory_trap, trap_number}
use Rattle.stream_core.specs.Streams.{StreamValue, cannot_trap, after_trap, after_trap_if}
use Rattle.stream_core.specs.Effects.{access_of, displaced_pointer, request_by, request_of, next_pc}
use Rattle.stream_core.specs.Effects.{control_ssw, control_targets, control_value, retries_after, after_instruction}
use Rattle.stream_core.specs.StreamRow.{fetch_of, control_by, control_of, after_blocked_reply, row_asking, row_from, stream_row}
use Rattle.stream_core.specs.declared.status_words.StatusWord.{StatusWord}
use Rattle.stream_core.specs.declared.traps.TrapKind.{TrapKind}
use Rattle.stream_core.specs.declared.traps.TrapKind.TheVariants as kind
use Rattle.stream_core.specs.declared.steps.Outcome.{Outcome}
use Rattle.stream_core.specs.declared.steps.Outcome.TheVariants as outcome
use Rattle.stream_core.specs.declared.steps.Fetch.{Fetch}
use Rattle.stream_core.specs.declared.steps.Fetch.TheVariants as fetch
use Rattle.stream_core.specs.declared.steps.Control.TheVariants as asks
use Rattle.program_flow.specs.Operands.{memory_source, registers_read}
use Rattle.program_flow.specs.Agreement.{with_registers, AgreeOn, registers_over, registers_over_reply, registers_over_fetch, reads_at, put_registers, RowSeesReads}

-- What it asks.

asked : StreamValue → MPart → MemOp → ℕ → ℕ → Option Request
asked s m o pointer value = Some (record {
  op = o;
  pointer = displaced_pointer pointer m.disp;
  acc = access_of m.acc;
  value = value;
  masked = record { trap0 = s.ssw.mask.trap0; trap1 = s.ssw.mask.trap1 };
})

same_request_by : (s : StreamValue) (rs : List ℕ) (m : MPart) (o : MemoryOp)
    → register_at rs m.base ≡ register_at s.registers m.base
    → register_at rs (memory_source o m.rd) ≡ register_at s.registers (memory_source o m.rd)
    → request_by (with_registers s rs) m o ≡ request_by s m o
unfolding asked
same_request_by s rs m memory.Nop b v = refl
same_request_by s rs m memory.Load b v = λ j. asked s m op.Load (b j) 0
same_request_by s rs m memory.Store b v = λ j. asked s m op.Store (b j) (v j)
same_request_by s rs m memory.FetchAdd b v = λ j. asked s m op.Fadd (b j) (v j)
same_request_by s rs m memory.TagGet b v = λ j. asked s m op.TagGet (b j) 0
same_request_by s rs m memory.TagSet b v = λ j. asked s m op.TagSet (b j) (v j % 16)
same_request_by s rs m memory.Purge b v = λ j. asked s m op.Purge (b j) (v j)

pub same_request : (s : StreamValue) (rs : List ℕ) (i : Insn) → AgreeOn (registers_read i) rs s.registers
    → request_of (with_registers s rs) i ≡ request_of s i
unfolding request_of
same_request s rs (Wide look o reg imm) e = refl
same_request s rs (Normal look m a c) e = same_request_by s rs m m.op e.0 e.1.0

same_control_by : (s : StreamValue) (rs : List ℕ) (c : CPart) (o : ControlOp)
    → register_at rs c.ra ≡ register_at s.registers c.ra → control_by (with_registers s rs) c o ≡ control_by s c o
same_control_by s rs c control.Reserve e = ap asks.Reserve e
same_control_by s rs c control.Create e = λ j. asks.Create (record {
  pc = (target_at s.targets c.t).pc;
  value = e j;
  t0 = target_at s.targets 0;
  mask = s.ssw.mask;
})
same_control_by s rs c o e = refl

pub same_control : (s : StreamValue) (rs : List ℕ) (i : Insn) → AgreeOn (registers_read i) rs s.registers
    → control_of (with_registers s rs) i ≡ control_of s i
unfolding control_of
same_control s rs (Wide look o reg imm) e = refl
same_control s rs (Normal look m a c) e = same_control_by s rs c c.op e.1.1.1.1.0

-- What it leaves.

same_second : (imm : Bool) (rb : ℕ) (rs qs : List ℕ)
    → register_at rs (if imm then 0 else rb) ≡ register_at qs (if imm then 0 else rb)
    → (if imm then rb else register_at rs rb) ≡ (if imm then rb else register_at qs rb)
same_second true rb rs qs e = refl
same_second false rb rs qs e = e

same_targets : (s : StreamValue) (rs : List ℕ) (c : CPart) (o : ControlOp) (l : StatusWord)
    → register_at rs c.ra ≡ register_at s.registers c.ra
    → control_targets (with_registers s rs) c o l ≡ control_targets s c o l
same_targets s rs c control.TargetSet l e = ap (λ v. with_target s.targets c.t (status_from v)) e
same_targets s rs c o l e = refl

pub same_after : (s : StreamValue) (rs : List ℕ) (i : Insn) (value grant : ℕ)
    → AgreeOn (registers_read i) rs s.registers
    → after_instruction (with_registers s rs) i value grant
    ≡ with_registers (after_instruction s i value grant) (registers_over s i value grant rs)
unfolding after_instruction
same_after s rs (Wide look wide.Literal reg imm) value grant e = refl
same_after s rs (Wide look wide.LiteralHigh reg imm) value grant e =
    ap
    (λ low. record s {
      registers = with_register rs reg (imm * 2 ^ 32 + low % 2 ^ 32);
      ssw = record s.ssw { pc = next_pc s.ssw.pc };
    })
    e.0
same_after s rs (Wide look wide.TargetLiteral reg imm) value grant e = refl
same_after s rs (Normal look m a c) value grant e =
    let x = e.1.1.0 in
    let y = same_second a.imm a.rb rs s.registers e.1.1.1.0 in
    let l : ℕ → ℕ → StatusWord =
    λ p q. record s.ssw {
      pc = next_pc s.ssw.pc;
      codes = if a.test then with_newest_code (code_of a.op p q) s.ssw.codes else s.ssw.codes;
    }
    in
    λ j. record s {
      registers =
          with_register (with_register (with_register rs
          (memory_destination m.op m.rd) value)
          (arithmetic_destination a.op a.rd) (result_of a.op (x j) (y j)))
          (control_destination c.op c.rd) (control_value s c c.op grant);
      targets = same_targets s rs c c.op (l (x j) (y j)) e.1.1.1.1.0 j;
      ssw = control_ssw s c c.op (l (x j) (y j));
      retries = retries_after m.op s.retries;
    }

-- What a trap or a wait leaves: all registers.

same_trap_if : (b : Bool) (k : TrapKind) (s : StreamValue) (rs : List ℕ)
    → after_trap_if b k (with_registers s rs) ≡ put_registers rs (after_trap_if b k s)
same_trap_if true k s rs = refl
same_trap_if false k s rs = refl

pub same_trap : (k : TrapKind) (a : ℕ) (s : StreamValue) (rs : List ℕ)
    → after_trap k a (with_registers s rs) ≡ put_registers rs (after_trap k a s)
same_trap k a s rs =
    same_trap_if (cannot_trap s) k (record s { xr = trap_number k + a % 2 ^ 48 * 256; retries = 0 }) rs

same_either : (b : Bool) (rs : List ℕ) (x y u v : StreamValue × Outcome) → u ≡ put_registers rs x
    → v ≡ put_registers rs y → (if b then u else v) ≡ put_registers rs (if b then x else y)
same_either true rs x y u v first second = first
same_either false rs x y u v first second = second

same_blocked : (limit : ℕ) (s : StreamValue) (rs : List ℕ) (a : ℕ)
    → after_blocked_reply limit (with_registers s rs) a ≡ put_registers rs (after_blocked_reply limit s a)
same_blocked limit s rs a =
    same_either (limit == 0) rs _ _ _ _ refl
    (same_either (nat_lt s.retries limit) rs _ _ _ _ refl
    (same_either s.ssw.mask.blocked rs _ _ _ _ refl (same_trap kind.Blocked a s rs)))

-- The row.

pub same_asking : (limit : ℕ) (s : StreamValue) (rs : List ℕ) (i : Insn) (grant : ℕ) (r : Option Reply)
    (q : Option Request) → AgreeOn (registers_read i) rs s.registers
    → row_asking limit (with_registers s rs) i grant r q
    ≡ put_registers (registers_over_reply s i grant r q rs) (row_asking limit s i grant r q)
same_asking limit s rs i grant r None e = ap (λ x. (x, outcome.Done)) (same_after s rs i 0 grant e)
same_asking limit s rs i grant None (Some q) e = refl
same_asking limit s rs i grant (Some (reply.Done value)) (Some q) e =
    ap (λ x. (x, outcome.Done)) (same_after s rs i value grant e)
same_asking limit s rs i grant (Some (reply.Blocked a)) (Some q) e = same_blocked limit s rs a
same_asking limit s rs i grant (Some (reply.Trap k a)) (Some q) e = same_trap (memory_trap k) a s rs

pub same_from : (limit : ℕ) (s : StreamValue) (rs : List ℕ) (grant : ℕ) (r : Option Reply) (f : Fetch)
    → AgreeOn (reads_at f) rs s.registers
    → row_from limit (with_registers s rs) grant r f
    ≡ put_registers (registers_over_fetch s f grant r rs) (row_from limit s grant r f)
same_from limit s rs grant r fetch.Rest e = refl
same_from limit s rs grant r (fetch.Trap k) e = same_trap k 0 s rs
same_from limit s rs grant r (fetch.Instruction i) e =
    ap (row_asking limit (with_registers s rs) i grant r) (same_request s rs i e)
    ∙ same_asking limit s rs i grant r (request_of s i) e

pub row_sees_reads : RowSeesReads
unfolding stream_row fetch_of
row_sees_reads profile program limit s rs grant r e = same_from limit s rs grant r (fetch_of profile program s) e
