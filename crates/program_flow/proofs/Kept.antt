-- Two streams that agree on registers that are live do the same, and agree on what is live then.
use Rattle.std.proofs.Common.{◌≡◌, ℕ, ◌+◌, ◌*◌, ◌%◌, ◌^◌, ◌==◌, ◌⊎◌, inl, inr, Bool, true, false, refl, sym, ap, ◌∙◌, subst}
use Rattle.std.proofs.Common.{if◌then◌else◌, nat_lt, List, [], ◌∷◌, length, Option, Some, None}
use Rattle.std.specs.Prelude.{⊤}
use Rattle.std.specs.List.{AllByRecursion}
use Rattle.insn_word.specs.declared.operations.MemoryOp.{MemoryOp}
use Rattle.insn_word.specs.declared.operations.MemoryOp.TheVariants as memory
use Rattle.insn_word.specs.declared.operations.WideOp.TheVariants as wide
use Rattle.insn_word.specs.declared.operations.ControlOp.{ControlOp}
use Rattle.insn_word.specs.declared.operations.ControlOp.TheVariants as control
use Rattle.insn_word.specs.declared.operations.Condition.{Condition}
use Rattle.insn_word.specs.declared.operations.Condition.TheVariants as condition
use Rattle.stream_core.specs.Conditions.{condition_holds}
use Rattle.stream_core.specs.declared.conditions.Code.{Code}
use Rattle.insn_word.specs.declared.insn.MPart.{MPart}
use Rattle.insn_word.specs.declared.insn.APart.{APart}
use Rattle.insn_word.specs.declared.insn.CPart.{CPart}
use Rattle.insn_word.specs.declared.insn.Insn.{Insn}
use Rattle.insn_word.specs.declared.insn.Insn.TheVariants.{Wide, Normal}
use Rattle.tag_memory.specs.declared.requests.Request.{Request}
use Rattle.tag_memory.specs.declared.requests.Reply.{Reply}
use Rattle.tag_memory.specs.declared.requests.Reply.TheVariants as reply
use Rattle.stream_core.specs.Registers.{register_at}
use Rattle.stream_core.specs.Traps.{memory_trap, trap_number}
use Rattle.stream_core.specs.Streams.{StreamValue, cannot_trap, after_trap, after_trap_if}
use Rattle.stream_core.specs.Effects.{request_by, request_of, next_pc, skip_pc, ssw_before_control, code_at, control_ssw, after_instruction}
use Rattle.stream_core.specs.StreamRow.{control_by, control_of, control_from, after_blocked_reply, row_asking, row_from}
use Rattle.stream_core.specs.declared.status_words.StatusWord.{StatusWord}
use Rattle.stream_core.specs.declared.traps.TrapKind.{TrapKind}
use Rattle.stream_core.specs.declared.traps.TrapKind.TheVariants as kind
use Rattle.stream_core.specs.declared.steps.Status.TheVariants.{Running, Stopped}
use Rattle.stream_core.specs.declared.steps.Outcome.{Outcome}
use Rattle.stream_core.specs.declared.steps.Outcome.TheVariants as outcome
use Rattle.stream_core.specs.declared.steps.Fetch.{Fetch}
use Rattle.stream_core.specs.declared.steps.Fetch.TheVariants as fetch
use Rattle.program_flow.specs.Agreement.{with_registers, AgreeOn, writes, registers_over, registers_over_reply, registers_over_fetch, reads_at, put_registers}
use Rattle.program_flow.specs.Flow.{SkipsTo, GoesBy, GoesTo, MayTrap, MayTrapWith, EndsStream, IsClosedAt, Matters}
use Rattle.program_flow.proofs.EqualRows.{same_from}
use Rattle.program_flow.proofs.Writes.{Same, sizes_writes, kept_writes, made_written}

-- Two streams are the same but for registers, and hold the same in these.
pub record AgreeInRegisters (L : ℕ → Type 0) (s t : StreamValue) : Type 0 where
  pub rest : t ≡ with_registers s t.registers
  pub sizes : length t.registers ≡ length s.registers
  pub each : (r : ℕ) → L r → register_at t.registers r ≡ register_at s.registers r

-- Where a done instruction goes on.

skips_to : (b : Bool) (l : StatusWord) (k p : ℕ) → l.pc ≡ k
    → ((if b then record l { pc = p } else l).pc ≡ k) ⊎ ((if b then record l { pc = p } else l).pc ≡ p)
skips_to true l k p e = inr refl
skips_to false l k p e = inl e

skips_by : (c : Condition) (code : Code) (l : StatusWord) (k p : ℕ) → l.pc ≡ k
    → SkipsTo c k p (if condition_holds c code then record l { pc = p } else l).pc
skips_by condition.Always code l k p e = refl
skips_by c code l k p e = skips_to (condition_holds c code) l k p e

goes_by : (s : StreamValue) (a : APart) (c : CPart) (o : ControlOp)
    → EndsStream (control_by s c o) ⊎ GoesBy o c s.ssw.pc (control_ssw s c o (ssw_before_control s a)).pc
goes_by s a c control.Jump = inr tt
goes_by s a c control.Skip =
    inr (skips_by c.cond (code_at s.ssw.codes c.code) (ssw_before_control s a) (next_pc s.ssw.pc) (skip_pc s.ssw.pc c.n) refl)
goes_by s a c control.Call = inr tt
goes_by s a c control.Exchange = inr tt
goes_by s a c control.Quit = inl tt
goes_by s a c control.QuitKeep = inl tt
goes_by s a c o = inr refl

pub goes_on : (s : StreamValue) (i : Insn) (value grant : ℕ)
    → EndsStream (control_of s i) ⊎ GoesTo i s.ssw.pc (after_instruction s i value grant).ssw.pc
unfolding control_of after_instruction
goes_on s (Wide look wide.Literal reg imm) value grant = inr refl
goes_on s (Wide look wide.LiteralHigh reg imm) value grant = inr refl
goes_on s (Wide look wide.TargetLiteral reg imm) value grant = inr refl
goes_on s (Normal look m a c) value grant = goes_by s a c c.op

-- What asks may trap.

unfoldable pub Asks : Option Request → Type 0
Asks None = ⊥
Asks (Some q) = ⊤

asks_by : (s : StreamValue) (m : MPart) (o : MemoryOp) (c : ControlOp) → Asks (request_by s m o) → MayTrapWith o c
unfolding Asks
asks_by s m memory.Nop c none = absurd none
asks_by s m o c h = tt

pub asks_may_trap : (s : StreamValue) (i : Insn) → Asks (request_of s i) → MayTrap (fetch.Instruction i)
unfolding request_of Asks
asks_may_trap s (Wide look o reg imm) none = absurd none
asks_may_trap s (Normal look m a c) h = asks_by s m m.op c.op h

-- Lists of registers.

pub each_of : (P Q : ℕ → Type 0) → ((r : ℕ) → P r → Q r) → (names : List ℕ) → AllByRecursion P names → AllByRecursion Q names
each_of P Q h [] all = tt
each_of P Q h (r ∷ names) all = (h r all.0, each_of P Q h names all.1)

pub itself : (rs names : List ℕ) → AgreeOn names rs rs
itself rs [] = tt
itself rs (r ∷ names) = (refl, itself rs names)

sizes_if : (s : StreamValue) (i : Insn) (grant : ℕ) (r : Option Reply) (q : Option Request) (rs qs : List ℕ)
    → length rs ≡ length qs → length (registers_over_reply s i grant r q rs) ≡ length (registers_over_reply s i grant r q qs)
sizes_if s i grant r None rs qs e = sizes_writes rs qs (writes s i 0 grant) e
sizes_if s i grant None (Some q) rs qs e = e
sizes_if s i grant (Some (reply.Done value)) (Some q) rs qs e = sizes_writes rs qs (writes s i value grant) e
sizes_if s i grant (Some (reply.Blocked a)) (Some q) rs qs e = e
sizes_if s i grant (Some (reply.Trap k a)) (Some q) rs qs e = e

pub sizes_at : (s : StreamValue) (f : Fetch) (grant : ℕ) (r : Option Reply) (rs qs : List ℕ) → length rs ≡ length qs
    → length (registers_over_fetch s f grant r rs) ≡ length (registers_over_fetch s f grant r qs)
sizes_at s fetch.Rest grant r rs qs e = e
sizes_at s (fetch.Trap k) grant r rs qs e = e
sizes_at s (fetch.Instruction i) grant r rs qs e = sizes_if s i grant r (request_of s i) rs qs e

-- Where the table of what is live is closed at the stream's place.
module _ (handled : Type 0) (named : ℕ → Type 0) (live : ℕ → ℕ → Type 0) (limit grant : ℕ) (s : StreamValue)
    (names : (r : ℕ) → named r → live s.ssw.pc r) (zero : live s.ssw.pc 0)
    (handler : cannot_trap s ≡ false → handled) (rs : List ℕ) (sizes : length rs ≡ length s.registers)
    (each : (r : ℕ) → live s.ssw.pc r → Same rs s.registers r) where
  -- what is live behind such a step is live before it
  abbrev Shrinks : StreamValue × Outcome → Type 0
  Shrinks e = (r : ℕ) → Matters named live e.0 r → live s.ssw.pc r

  stays : (r : ℕ) → Matters named live s r → live s.ssw.pc r
  stays r (inl n) = names r n
  stays r (inr h) = h.1

  shrinks_trap : (k : TrapKind) (a : ℕ) → (handled → (r : ℕ) → live s.ssw.pc r) → Shrinks (after_trap k a s)
  shrinks_trap k a all = by (cannot_trap s) refl where
    by : (b : Bool) → cannot_trap s ≡ b
        → Shrinks (after_trap_if b k (record s { xr = trap_number k + a % 2 ^ 48 * 256; retries = 0 }))
    by true e r (inl n) = names r n
    by true e r (inr h) = let stopped : Stopped k ≡ Running = h.0 in cc
    by false e r h = all (handler e) r

  either : (b : Bool) (u v : StreamValue × Outcome) → Shrinks u → Shrinks v → Shrinks (if b then u else v)
  either true u v first second = first
  either false u v first second = second

  shrinks_blocked : (a : ℕ) → (handled → (r : ℕ) → live s.ssw.pc r) → Shrinks (after_blocked_reply limit s a)
  shrinks_blocked a all =
      let waits : StreamValue × Outcome = (s, outcome.Blocked) in
      let counts : StreamValue × Outcome = (record s { retries = s.retries + 1 }, outcome.Blocked) in
      let left : StreamValue × Outcome = if s.ssw.mask.blocked then waits else after_trap kind.Blocked a s in
      let more : StreamValue × Outcome = if nat_lt s.retries limit then counts else left in
      either (limit == 0) waits more stays
      (either (nat_lt s.retries limit) counts left stays
      (either s.ssw.mask.blocked waits (after_trap kind.Blocked a s) stays (shrinks_trap kind.Blocked a all)))

  done : (i : Insn) (value : ℕ) → IsClosedAt handled live s.ssw.pc (fetch.Instruction i)
      → EndsStream (control_of s i)
      ⊎ ((r : ℕ) → Matters named live (after_instruction s i value grant) r
      → Same (registers_over s i value grant rs) (registers_over s i value grant s.registers) r)
  done i value closed = elim (goes_on s i value grant) [
    | inl ends ↦ inl ends
    | inr to ↦ inr (λ r h. elim h [
      | inl n ↦ kept_writes rs s.registers (writes s i value grant) sizes r (each r (names r n))
      | inr l ↦ elim (closed.goes i refl (after_instruction s i value grant).ssw.pc r to l.1) [
        | inl was ↦ kept_writes rs s.registers (writes s i value grant) sizes r (each r was)
        | inr made ↦ made_written s value grant rs s.registers sizes i (each 0 zero) r made
      ]
    ])
  ]

  kept_asking : (i : Insn) (r : Option Reply) (q : Option Request) → IsClosedAt handled live s.ssw.pc (fetch.Instruction i)
      → (Asks q → MayTrap (fetch.Instruction i))
      → (((row_asking limit s i grant r q).1 ≡ outcome.Done) × EndsStream (control_of s i))
      ⊎ ((x : ℕ) → Matters named live (row_asking limit s i grant r q).0 x
      → Same (registers_over_reply s i grant r q rs) (registers_over_reply s i grant r q s.registers) x)
  unfolding Asks
  kept_asking i r None closed asks = elim (done i 0 closed) [ inl e ↦ inl (refl, e) | inr h ↦ inr h ]
  kept_asking i None (Some q) closed asks = inr (λ x h. each x (stays x h))
  kept_asking i (Some (reply.Done value)) (Some q) closed asks =
      elim (done i value closed) [ inl e ↦ inl (refl, e) | inr h ↦ inr h ]
  kept_asking i (Some (reply.Blocked a)) (Some q) closed asks =
      inr (λ x h. each x (shrinks_blocked a (closed.traps (asks tt)) x h))
  kept_asking i (Some (reply.Trap k a)) (Some q) closed asks =
      inr (λ x h. each x (shrinks_trap (memory_trap k) a (closed.traps (asks tt)) x h))

  pub kept_at : (r : Option Reply) (f : Fetch) → IsClosedAt handled live s.ssw.pc f
      → (((row_from limit s grant r f).1 ≡ outcome.Done) × EndsStream (control_from s f))
      ⊎ ((x : ℕ) → Matters named live (row_from limit s grant r f).0 x
      → Same (registers_over_fetch s f grant r rs) (registers_over_fetch s f grant r s.registers) x)
  kept_at r fetch.Rest closed = inr (λ x h. each x (stays x h))
  kept_at r (fetch.Trap k) closed = inr (λ x h. each x (shrinks_trap k 0 (closed.traps tt) x h))
  kept_at r (fetch.Instruction i) closed = kept_asking i r (request_of s i) closed (asks_may_trap s i)

-- the registers that a step leaves
pub left : (limit grant : ℕ) (s : StreamValue) (r : Option Reply) (f : Fetch)
    → (row_from limit s grant r f).0.registers ≡ registers_over_fetch s f grant r s.registers
left limit grant s r f =
    ap (λ (e : StreamValue × Outcome). e.0.registers)
    (same_from limit s s.registers grant r f (itself s.registers (reads_at f)))

-- Two running streams that agree in registers come out the same, and agree then.
pub registers_kept : (handled : Type 0) (named : ℕ → Type 0) (live : ℕ → ℕ → Type 0) (limit : ℕ) (s t : StreamValue)
    (names : (r : ℕ) → named r → live s.ssw.pc r) (zero : live s.ssw.pc 0) (handler : cannot_trap s ≡ false → handled)
    (grant : ℕ) (r : Option Reply) (f : Fetch) → IsClosedAt handled live s.ssw.pc f → s.status ≡ Running
    → AgreeInRegisters (Matters named live s) s t
    → ((row_from limit t grant r f).1 ≡ (row_from limit s grant r f).1)
    × ((((row_from limit s grant r f).1 ≡ outcome.Done) × EndsStream (control_from s f))
    ⊎ AgreeInRegisters (Matters named live (row_from limit s grant r f).0) (row_from limit s grant r f).0
    (row_from limit t grant r f).0)
registers_kept handled named live limit s t names zero handler grant r f here runs agree =
    (ap (λ (e : StreamValue × Outcome). e.1) row, after)
  where
    each : (r : ℕ) → live s.ssw.pc r → Same t.registers s.registers r
    each r l = agree.each r (inr (runs, l))

    reads : AgreeOn (reads_at f) t.registers s.registers
    reads = each_of (live s.ssw.pc) (Same t.registers s.registers) each (reads_at f) here.reads

    e : StreamValue × Outcome
    e = row_from limit s grant r f

    row : row_from limit t grant r f ≡ put_registers (registers_over_fetch s f grant r t.registers) e
    row =
        ap (λ x. row_from limit x grant r f) agree.rest
        ∙ same_from limit s t.registers grant r f reads

    after : ((e.1 ≡ outcome.Done) × EndsStream (control_from s f))
        ⊎ AgreeInRegisters (Matters named live e.0) e.0 (row_from limit t grant r f).0
    after = elim
        (kept_at handled named live limit grant s names zero handler t.registers agree.sizes each r f here) [
          | inl ends ↦ inl ends
          | inr same ↦ inr (subst (λ (x : StreamValue × Outcome). AgreeInRegisters (Matters named live e.0) e.0 x.0) (sym row)
              (record {
                rest = refl;
                sizes = sizes_at s f grant r t.registers s.registers agree.sizes ∙ ap length (sym (left limit grant s r f));
                each = λ x h. same x h ∙ ap (λ zs. register_at zs x) (sym (left limit grant s r f));
              }))
        ]
