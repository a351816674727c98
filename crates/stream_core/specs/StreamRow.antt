-- A step of a stream: the first line that holds decides.
use Rattle.std.specs.Prelude.{ℕ, ◌+◌, ◌==◌, nat_lt, List, Option, Some, None, if◌then◌else◌, slice_get}
use Rattle.insn_word.specs.Reading.{instruction_in}
use Rattle.insn_word.specs.declared.operations.ControlOp.{ControlOp}
use Rattle.insn_word.specs.declared.operations.ControlOp.TheVariants as control
use Rattle.insn_word.specs.declared.profiles.Profile.{Profile}
use Rattle.insn_word.specs.declared.insn.CPart.{CPart}
use Rattle.insn_word.specs.declared.insn.Insn.{Insn}
use Rattle.insn_word.specs.declared.insn.Insn.TheVariants.{Wide, Normal}
use Rattle.tag_memory.specs.declared.requests.Request.{Request}
use Rattle.tag_memory.specs.declared.requests.Reply.{Reply}
use Rattle.tag_memory.specs.declared.requests.Reply.TheVariants as reply
use Rattle.stream_core.specs.Registers.{register_at, target_at}
use Rattle.stream_core.specs.Traps.{memory_trap}
use Rattle.stream_core.specs.Streams.{StreamValue, after_trap}
use Rattle.stream_core.specs.Effects.{request_of, after_instruction}
use Rattle.stream_core.specs.declared.traps.TrapKind.TheVariants as kind
use Rattle.stream_core.specs.declared.steps.Status.{Status}
use Rattle.stream_core.specs.declared.steps.Status.TheVariants.{Idle, Running, Stopped}
use Rattle.stream_core.specs.declared.steps.Outcome.{Outcome}
use Rattle.stream_core.specs.declared.steps.Outcome.TheVariants as outcome
use Rattle.stream_core.specs.declared.steps.Fetch.{Fetch}
use Rattle.stream_core.specs.declared.steps.Fetch.TheVariants as fetch
use Rattle.stream_core.specs.declared.steps.Plan.{Plan}
use Rattle.stream_core.specs.declared.steps.Plan.TheVariants as plan
use Rattle.stream_core.specs.declared.steps.Control.{Control}
use Rattle.stream_core.specs.declared.steps.Control.TheVariants as asks

-- The instruction that stands at the pc, in the profile of the machine.

-- the instruction of the word at the pc, or the trap where it spells none
abbrev pub fetch_instruction : Option Insn → Fetch
fetch_instruction None = fetch.Trap kind.Illegal
fetch_instruction (Some i) = fetch.Instruction i

-- what stands at the pc; a trap where there is no word
abbrev pub fetch_word : Profile → Option ℕ → Fetch
fetch_word profile None = fetch.Trap kind.Program
fetch_word profile (Some word) = fetch_instruction (instruction_in profile word)

-- a stream that does not run rests
abbrev pub fetch_if : Profile → Status → List ℕ → ℕ → Fetch
fetch_if profile Running program pc = fetch_word profile (slice_get program pc)
fetch_if profile Idle program pc = fetch.Rest
fetch_if profile (Stopped k) program pc = fetch.Rest

-- what a step of the stream finds
unfoldable pub fetch_of : Profile → List ℕ → StreamValue → Fetch
fetch_of profile program s = fetch_if profile s.status program s.ssw.pc

-- What the step needs.

abbrev pub plan_asking : Option Request → Plan
plan_asking None = plan.Local
plan_asking (Some q) = plan.Ask q

abbrev pub plan_from : StreamValue → Fetch → Plan
plan_from s fetch.Rest = plan.Rest
plan_from s (fetch.Trap k) = plan.Trap k
plan_from s (fetch.Instruction i) = plan_asking (request_of s i)

unfoldable pub plan_of : Profile → List ℕ → StreamValue → Plan
plan_of profile program s = plan_from s (fetch_of profile program s)

-- What the step asks of its processor.

-- what each control operation asks of the processor
abbrev pub control_by : StreamValue → CPart → ControlOp → Control
control_by s c control.Nop = asks.Plain
control_by s c control.Jump = asks.Plain
control_by s c control.Skip = asks.Plain
control_by s c control.Call = asks.Plain
control_by s c control.Exchange = asks.Plain
control_by s c control.TargetSet = asks.Plain
control_by s c control.TargetGet = asks.Plain
control_by s c control.TrapGet = asks.Plain
control_by s c control.Reserve = asks.Reserve (register_at s.registers c.ra)
control_by s c control.Create = asks.Create (record {
  pc = (target_at s.targets c.t).pc;
  value = register_at s.registers c.ra;
  t0 = target_at s.targets 0;
  mask = s.ssw.mask;
})
control_by s c control.Quit = asks.Quit
control_by s c control.QuitKeep = asks.QuitKeep
control_by s c control.Mask = asks.Plain

-- what an instruction asks of the processor
unfoldable pub control_of : StreamValue → Insn → Control
control_of s (Wide look op reg imm) = asks.Plain
control_of s (Normal look m a c) = control_by s c c.op

abbrev pub control_from : StreamValue → Fetch → Control
control_from s (fetch.Instruction i) = control_of s i
control_from s fetch.Rest = asks.Plain
control_from s (fetch.Trap k) = asks.Plain

unfoldable pub control_at : Profile → List ℕ → StreamValue → Control
control_at profile program s = control_from s (fetch_of profile program s)

-- The step itself.

-- a blocked reference, where the retry limit is so
abbrev pub after_blocked_reply : ℕ → StreamValue → ℕ → StreamValue × Outcome
after_blocked_reply limit s a =
    if limit == 0 then (s, outcome.Blocked)
    else if nat_lt s.retries limit then (record s { retries = s.retries + 1 }, outcome.Blocked)
    else if s.ssw.mask.blocked then (s, outcome.Blocked)
    else after_trap kind.Blocked a s

-- the stream after a reply of the memory, and the outcome
abbrev pub after_reply : ℕ → StreamValue → Insn → ℕ → Reply → StreamValue × Outcome
after_reply limit s i grant (reply.Done value) = (after_instruction s i value grant, outcome.Done)
after_reply limit s i grant (reply.Blocked a) = after_blocked_reply limit s a
after_reply limit s i grant (reply.Trap k a) = after_trap (memory_trap k) a s

-- with no reply a reference waits
abbrev pub after_reply_if : ℕ → StreamValue → Insn → ℕ → Option Reply → StreamValue × Outcome
after_reply_if limit s i grant None = (s, outcome.Skipped)
after_reply_if limit s i grant (Some r) = after_reply limit s i grant r

-- the stream after its instruction, given its request, if any, and the reply to that
abbrev pub row_asking : ℕ → StreamValue → Insn → ℕ → Option Reply → Option Request → StreamValue × Outcome
row_asking limit s i grant r None = (after_instruction s i 0 grant, outcome.Done)
row_asking limit s i grant r (Some q) = after_reply_if limit s i grant r

abbrev pub row_from : ℕ → StreamValue → ℕ → Option Reply → Fetch → StreamValue × Outcome
row_from limit s grant r fetch.Rest = (s, outcome.Skipped)
row_from limit s grant r (fetch.Trap k) = after_trap k 0 s
row_from limit s grant r (fetch.Instruction i) = row_asking limit s i grant r (request_of s i)

-- the stream after a step, and the outcome
unfoldable pub stream_row : Profile → List ℕ → ℕ → StreamValue → ℕ → Option Reply → StreamValue × Outcome
stream_row profile program limit s grant r = row_from limit s grant r (fetch_of profile program s)
