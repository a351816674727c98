-- Streams that differ in registers alone.
use Rattle.std.specs.Prelude.{◌≡◌, ℕ, ◌+◌, ◌*◌, ◌%◌, ◌^◌, List, [], ◌∷◌, Option, Some, None}
use Rattle.std.specs.List.{AllByRecursion}
use Rattle.insn_word.specs.Words.{memory_destination, arithmetic_destination, control_destination}
use Rattle.insn_word.specs.declared.operations.WideOp.{WideOp}
use Rattle.insn_word.specs.declared.operations.WideOp.TheVariants as wide
use Rattle.insn_word.specs.declared.insn.Insn.{Insn}
use Rattle.insn_word.specs.declared.insn.Insn.TheVariants.{Wide, Normal}
use Rattle.insn_word.specs.declared.profiles.Profile.{Profile}
use Rattle.tag_memory.specs.declared.requests.Request.{Request}
use Rattle.tag_memory.specs.declared.requests.Reply.{Reply}
use Rattle.tag_memory.specs.declared.requests.Reply.TheVariants as reply
use Rattle.stream_core.specs.Registers.{register_at, with_register}
use Rattle.stream_core.specs.Streams.{StreamValue}
use Rattle.stream_core.specs.Effects.{arithmetic_value, control_value, request_of}
use Rattle.stream_core.specs.declared.steps.Outcome.{Outcome}
use Rattle.stream_core.specs.declared.steps.Fetch.{Fetch}
use Rattle.stream_core.specs.declared.steps.Fetch.TheVariants as fetch
use Rattle.stream_core.specs.StreamRow.{fetch_of, stream_row}
use Rattle.program_flow.specs.Operands.{registers_read, wide_destination}

-- the stream with other registers
abbrev pub with_registers : StreamValue → List ℕ → StreamValue
with_registers s rs = record s { registers = rs }

-- These registers are the same in both.
abbrev pub AgreeOn : List ℕ → List ℕ → List ℕ → Type 0
AgreeOn names rs qs = AllByRecursion (λ r. register_at rs r ≡ register_at qs r) names

-- what a wide operation of the stream writes
abbrev pub wide_value : StreamValue → WideOp → ℕ → ℕ → ℕ
wide_value s wide.Literal reg imm = imm
wide_value s wide.LiteralHigh reg imm = imm * 2 ^ 32 + register_at s.registers reg % 2 ^ 32
wide_value s wide.TargetLiteral reg imm = 0

-- the writes of the stream's instruction, each a register and a value, given the memory's number and the grant
abbrev pub writes : StreamValue → Insn → ℕ → ℕ → List (ℕ × ℕ)
writes s (Wide look op reg imm) value grant = (wide_destination op reg, wide_value s op reg imm) ∷ []
writes s (Normal look m a c) value grant =
    (memory_destination m.op m.rd, value) ∷ (arithmetic_destination a.op a.rd, arithmetic_value s a)
    ∷ (control_destination c.op c.rd, control_value s c c.op grant) ∷ []

-- the registers after these writes, in order
abbrev pub after_writes : List ℕ → List (ℕ × ℕ) → List ℕ
after_writes rs [] = rs
after_writes rs (w ∷ ws) = after_writes (with_register rs w.0 w.1) ws

-- what the stream's instruction leaves of these registers where it is done
abbrev pub registers_over : StreamValue → Insn → ℕ → ℕ → List ℕ → List ℕ
registers_over s i value grant rs = after_writes rs (writes s i value grant)

-- the same by the memory's reply: where it is not done all stay
abbrev pub registers_over_reply : StreamValue → Insn → ℕ → Option Reply → Option Request → List ℕ → List ℕ
registers_over_reply s i grant r None rs = registers_over s i 0 grant rs
registers_over_reply s i grant None (Some q) rs = rs
registers_over_reply s i grant (Some (reply.Done value)) (Some q) rs = registers_over s i value grant rs
registers_over_reply s i grant (Some (reply.Blocked a)) (Some q) rs = rs
registers_over_reply s i grant (Some (reply.Trap k a)) (Some q) rs = rs

-- the same by what stands at the pc
abbrev pub registers_over_fetch : StreamValue → Fetch → ℕ → Option Reply → List ℕ → List ℕ
registers_over_fetch s fetch.Rest grant r rs = rs
registers_over_fetch s (fetch.Trap k) grant r rs = rs
registers_over_fetch s (fetch.Instruction i) grant r rs = registers_over_reply s i grant r (request_of s i) rs

-- the registers that are read where this stands at the pc
abbrev pub reads_at : Fetch → List ℕ
reads_at fetch.Rest = []
reads_at (fetch.Trap k) = []
reads_at (fetch.Instruction i) = registers_read i

-- a stream with other registers, and an outcome
abbrev pub put_registers : List ℕ → StreamValue × Outcome → StreamValue × Outcome
put_registers rs e = (with_registers e.0 rs, e.1)

-- A step of a stream sees no register that its instruction does not read: with other values there it does the same,
-- and what it writes lands on the other registers.
abbrev pub RowSeesReads : Type 0
RowSeesReads = (profile : Profile) (program : List ℕ) (limit : ℕ) (s : StreamValue) (rs : List ℕ) (grant : ℕ)
    (r : Option Reply)
    → AgreeOn (reads_at (fetch_of profile program s)) rs s.registers
    → stream_row profile program limit (with_registers s rs) grant r
    ≡ put_registers (registers_over_fetch s (fetch_of profile program s) grant r rs) (stream_row profile program limit s grant r)
