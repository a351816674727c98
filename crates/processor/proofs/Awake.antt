-- No step that takes place makes its stream idle, but by QUIT and QUITP.
use Rattle.std.proofs.Common.{◌≡◌, ℕ, ◌+◌, ◌*◌, ◌%◌, ◌^◌, ◌==◌, Bool, true, false, refl, Option, Some, None}
use Rattle.std.proofs.Common.{if◌then◌else◌, nat_lt}
use Rattle.insn_word.specs.declared.operations.WideOp.TheVariants as wide
use Rattle.insn_word.specs.declared.insn.Insn.{Insn}
use Rattle.insn_word.specs.declared.insn.Insn.TheVariants.{Wide, Normal}
use Rattle.tag_memory.specs.declared.requests.Request.{Request}
use Rattle.tag_memory.specs.declared.requests.Reply.{Reply}
use Rattle.tag_memory.specs.declared.requests.Reply.TheVariants as reply
use Rattle.stream_core.specs.Traps.{trap_number, memory_trap}
use Rattle.stream_core.specs.Streams.{StreamValue, cannot_trap, after_trap_if, after_trap}
use Rattle.stream_core.specs.Effects.{after_instruction}
use Rattle.stream_core.specs.StreamRow.{after_blocked_reply, after_reply, row_asking}
use Rattle.stream_core.specs.declared.traps.TrapKind.{TrapKind}
use Rattle.stream_core.specs.declared.traps.TrapKind.TheVariants as kind
use Rattle.stream_core.specs.declared.steps.Outcome.{Outcome}
use Rattle.stream_core.specs.declared.steps.Outcome.TheVariants as outcome
use Rattle.processor.specs.Processors.{is_idle}

awake-trapped_if : (b : Bool) (k : TrapKind) (s : StreamValue) → is_idle s ≡ false
    → is_idle (after_trap_if b k s).0 ≡ false
awake-trapped_if true k s h = refl
awake-trapped_if false k s h = h

pub awake-trapped : (k : TrapKind) (a : ℕ) (s : StreamValue) → is_idle s ≡ false → is_idle (after_trap k a s).0 ≡ false
awake-trapped k a s h =
    awake-trapped_if (cannot_trap s) k (record s { xr = trap_number k + a % 2 ^ 48 * 256; retries = 0 }) h

awake-executed : (s : StreamValue) (i : Insn) (value grant : ℕ) → is_idle s ≡ false
    → is_idle (after_instruction s i value grant) ≡ false
unfolding after_instruction
awake-executed s (Wide look wide.Literal reg imm) value grant h = h
awake-executed s (Wide look wide.LiteralHigh reg imm) value grant h = h
awake-executed s (Wide look wide.TargetLiteral reg imm) value grant h = h
awake-executed s (Normal look m a c) value grant h = h

awake_either : (b : Bool) (x y : StreamValue × Outcome) → is_idle x.0 ≡ false → is_idle y.0 ≡ false
    → is_idle (if b then x else y).0 ≡ false
awake_either true x y first second = first
awake_either false x y first second = second

awake-blocked : (limit : ℕ) (s : StreamValue) (a : ℕ) → is_idle s ≡ false → is_idle (after_blocked_reply limit s a).0 ≡ false
awake-blocked limit s a h =
    let waits : StreamValue × Outcome = (s, outcome.Blocked) in
    let counts : StreamValue × Outcome = (record s { retries = s.retries + 1 }, outcome.Blocked) in
    let stays : StreamValue × Outcome = if s.ssw.mask.blocked then waits else after_trap kind.Blocked a s in
    let more : StreamValue × Outcome = if nat_lt s.retries limit then counts else stays in
    awake_either (limit == 0) waits more h
    (awake_either (nat_lt s.retries limit) counts stays h
    (awake_either s.ssw.mask.blocked waits (after_trap kind.Blocked a s) h (awake-trapped kind.Blocked a s h)))

awake-replied : (limit : ℕ) (s : StreamValue) (i : Insn) (grant : ℕ) (r : Reply) → is_idle s ≡ false
    → is_idle (after_reply limit s i grant r).0 ≡ false
awake-replied limit s i grant (reply.Done value) h = awake-executed s i value grant h
awake-replied limit s i grant (reply.Blocked a) h = awake-blocked limit s a h
awake-replied limit s i grant (reply.Trap k a) h = awake-trapped (memory_trap k) a s h

pub awake-row_asking : (limit : ℕ) (s : StreamValue) (i : Insn) (grant : ℕ) (r : Option Reply) (o : Option Request)
    → is_idle s ≡ false → is_idle (row_asking limit s i grant r o).0 ≡ false
awake-row_asking limit s i grant r None h = awake-executed s i 0 grant h
awake-row_asking limit s i grant None (Some q) h = h
awake-row_asking limit s i grant (Some a) (Some q) h = awake-replied limit s i grant a h
