-- Where a table of codes is closed, a stream stands at a place with no more codes than it says, or is lost past the program's
-- end in a trap that stops it: each step of it keeps that.
use Rattle.std.proofs.Common.{◌≡◌, ℕ, zero, suc, ◌+◌, ◌*◌, ◌%◌, ◌^◌, ◌<◌, ◌≤◌, ◌==◌, ◌⊎◌, inl, inr, Bool, true, false, refl, sym, ap}
use Rattle.std.proofs.Common.{subst, if◌then◌else◌, nat_lt, List, length, replicate, Option, Some, None}
use Rattle.std.specs.Prelude.{⊤, ◌||◌}
use Rattle.std.proofs.lemmas.Bool.{cases_lt, cases_eq}
use Rattle.std.proofs.lemmas.List.{get_or-set_same, get_or-set_other, set_past}
use Rattle.insn_word.specs.declared.operations.WideOp.{WideOp}
use Rattle.insn_word.specs.declared.operations.WideOp.TheVariants as wide
use Rattle.insn_word.specs.declared.operations.ControlOp.{ControlOp}
use Rattle.insn_word.specs.declared.operations.ControlOp.TheVariants as control
use Rattle.insn_word.specs.declared.operations.Condition.{Condition}
use Rattle.insn_word.specs.declared.operations.Condition.TheVariants as condition
use Rattle.insn_word.specs.declared.insn.APart.{APart}
use Rattle.insn_word.specs.declared.insn.CPart.{CPart}
use Rattle.insn_word.specs.declared.insn.Insn.{Insn}
use Rattle.insn_word.specs.declared.insn.Insn.TheVariants.{Wide, Normal}
use Rattle.tag_memory.specs.declared.requests.Request.{Request}
use Rattle.tag_memory.specs.declared.requests.Reply.{Reply}
use Rattle.tag_memory.specs.declared.requests.Reply.TheVariants as reply
use Rattle.stream_core.specs.Arithmetic.{code_of}
use Rattle.stream_core.specs.Conditions.{condition_holds}
use Rattle.stream_core.specs.declared.conditions.Code.{Code}
use Rattle.stream_core.specs.declared.status_words.Codes.{Codes}
use Rattle.stream_core.specs.Registers.{register_at, target_at, with_target}
use Rattle.stream_core.specs.StatusWords.{status_at, with_newest_code, no_codes}
use Rattle.stream_core.specs.Traps.{trap_number, memory_trap}
use Rattle.stream_core.specs.Streams.{StreamValue, no_handler, cannot_trap, after_trap, after_trap_if}
use Rattle.stream_core.specs.Children.{child_stream}
use Rattle.stream_core.specs.Effects.{next_pc, skip_pc, code_at, second_operand, ssw_before_control, control_ssw, control_targets, after_instruction}
use Rattle.stream_core.specs.StreamRow.{control_by, control_of, after_blocked_reply, row_asking}
use Rattle.stream_core.specs.declared.status_words.StatusWord.{StatusWord}
use Rattle.stream_core.specs.declared.traps.TrapKind.{TrapKind}
use Rattle.stream_core.specs.declared.traps.TrapKind.TheVariants as kind
use Rattle.stream_core.specs.declared.steps.Outcome.{Outcome}
use Rattle.stream_core.specs.declared.steps.Outcome.TheVariants as outcome
use Rattle.stream_core.specs.declared.steps.Child.{Child}
use Rattle.program_flow.specs.Flow.{EndsStream, SkipsTo}
use Rattle.source_slips.specs.Places.{StaysBy, GoesStraightBy}
use Rattle.source_slips.specs.Made.{GoesByTarget, Starts, Returns, SetsHandler}

unset_at : (n t : ℕ) → (target_at (replicate n (status_at 0)) t).pc ≡ 0
unset_at zero t = refl
unset_at (suc n) zero = refl
unset_at (suc n) (suc t) = unset_at n t

-- the codes behind an instruction that makes this one, or none
abbrev pub codes_after : Bool → Code → Codes → Codes
codes_after makes x cs = if makes then with_newest_code x cs else cs

-- With which codes a stream may stand at a place, and go to a target register; which places are past the program's end.
module _ (stands : ℕ → Codes → Type 0) (anywhere : Codes → Type 0) (past : ℕ → Type 0) where
  -- a target register may lead to a place
  abbrev pub IsAimedAt : ℕ → Type 0
  IsAimedAt k = (cs : Codes) → anywhere cs → stands k cs

  -- A stream stands where the table says, its t0 leads past the end, and its target registers where they may.
  pub record IsSteady (s : StreamValue) : Type 0 where
    pub here : stands s.ssw.pc s.ssw.codes
    pub handler : past (target_at s.targets 0).pc
    pub targets : (t : ℕ) → IsAimedAt (target_at s.targets t).pc

  -- a stream is in a trap past the end
  abbrev pub IsLost : StreamValue → Type 0
  IsLost s = past s.ssw.pc × (s.ssw.in_trap ≡ true)

  abbrev pub KeepsTo : StreamValue → Type 0
  KeepsTo s = IsSteady s ⊎ IsLost s

  -- Target registers.

  set_targets : (ts : List StatusWord) (u : ℕ) (x : StatusWord) → IsAimedAt x.pc
      → ((t : ℕ) → IsAimedAt (target_at ts t).pc) → (t : ℕ) → IsAimedAt (target_at (with_target ts u x) t).pc
  set_targets ts u x fine all t = by (cases_eq t u) (cases_lt u (length ts)) where
    by : (t ≡ u) ⊎ (t ≡ u → ⊥) → (u < length ts) ⊎ (length ts ≤ u) → IsAimedAt (target_at (with_target ts u x) t).pc
    by (inr apart) place =
        subst (λ (y : StatusWord). IsAimedAt y.pc) (sym (get_or-set_other ts u t x (status_at 0) apart)) (all t)
    by (inl same) (inl within) =
        subst (λ j. IsAimedAt (target_at (with_target ts u x) j).pc) (sym same)
        (subst (λ (y : StatusWord). IsAimedAt y.pc) (sym (get_or-set_same ts u x (status_at 0) within)) fine)
    by (inl same) (inr beyond_end) =
        subst (λ xs. IsAimedAt (target_at xs t).pc) (sym (set_past ts u x beyond_end)) (all t)

  set_handler : (ts : List StatusWord) (u : ℕ) (x : StatusWord) → (u ≡ 0 → ⊥) → past (target_at ts 0).pc
      → past (target_at (with_target ts u x) 0).pc
  set_handler ts u x apart old =
      subst (λ (y : StatusWord). past y.pc) (sym (get_or-set_other ts u 0 x (status_at 0) (λ e. apart (sym e)))) old

  -- A stream that CREATE starts.

  pub started : (c : Child) → stands c.pc no_codes → past c.t0.pc → IsAimedAt c.t0.pc → IsAimedAt 0
      → IsSteady (child_stream c)
  started c here t0 aimed unset = record {
    here = here;
    handler = t0;
    targets =
        set_targets (replicate 8 (status_at 0)) 0 c.t0 aimed
        (λ t. subst IsAimedAt (sym (unset_at 8 t)) unset);
  }

  -- What an instruction of a stream that stands so leads to.

  pub record IsLed (k : ℕ) (cs : Codes) (makes : Bool) (c : CPart) (o : ControlOp) : Type 0 where
    pub straight : (j : ℕ) → GoesStraightBy o c k j → (x : Code) → stands j (codes_after makes x cs)
    pub jumps : GoesByTarget o → (x : Code) → anywhere (codes_after makes x cs)
    pub starts : Starts o → anywhere no_codes
    pub returns : Returns o → IsAimedAt (next_pc k)
    pub handler : SetsHandler o c → ⊥

  abbrev pub IsAiming : WideOp → ℕ → ℕ → Type 0
  IsAiming wide.Literal reg imm = ⊤
  IsAiming wide.LiteralHigh reg imm = ⊤
  IsAiming wide.TargetLiteral reg imm = IsAimedAt imm × (reg ≡ 0 → ⊥)

  abbrev pub IsLedBy : ℕ → Codes → Insn → Type 0
  IsLedBy k cs (Wide look op reg imm) = stands (next_pc k) cs × IsAiming op reg imm
  IsLedBy k cs (Normal look m a c) = IsLed k cs a.test c c.op

  -- Traps.

  abbrev marked : StreamValue → TrapKind → ℕ → StreamValue
  marked s k a = record s { xr = trap_number k + a % 2 ^ 48 * 256; retries = 0 }

  pub lost_trapped : (s : StreamValue) → IsLost s → (k : TrapKind) (a : ℕ) → KeepsTo (after_trap k a s).0
  lost_trapped s lost k a =
      subst (λ b. KeepsTo (after_trap_if b k (marked s k a)).0)
      (sym (ap (λ b. b || ((target_at s.targets 0).pc == no_handler)) lost.1)) (inr lost)

  module _ (s : StreamValue) (keeps : IsSteady s) where
    trapped_if : (b : Bool) (k : TrapKind) (a : ℕ) → KeepsTo (after_trap_if b k (marked s k a)).0
    trapped_if true k a = inl (record { here = keeps.here; handler = keeps.handler; targets = keeps.targets })
    trapped_if false k a = inr (keeps.handler, refl)

    pub trapped : (k : TrapKind) (a : ℕ) → KeepsTo (after_trap k a s).0
    trapped k a = trapped_if (cannot_trap s) k a

    either : (b : Bool) (x y : StreamValue × Outcome) → KeepsTo x.0 → KeepsTo y.0 → KeepsTo (if b then x else y).0
    either true x y first second = first
    either false x y first second = second

    counted : KeepsTo (record s { retries = s.retries + 1 })
    counted = inl (record { here = keeps.here; handler = keeps.handler; targets = keeps.targets })

    blocked : (limit a : ℕ) → KeepsTo (after_blocked_reply limit s a).0
    blocked limit a =
        let waits : StreamValue × Outcome = (s, outcome.Blocked) in
        let counts : StreamValue × Outcome = (record s { retries = s.retries + 1 }, outcome.Blocked) in
        let left : StreamValue × Outcome = if s.ssw.mask.blocked then waits else after_trap kind.Blocked a s in
        let more : StreamValue × Outcome = if nat_lt s.retries limit then counts else left in
        either (limit == 0) waits more (inl keeps)
        (either (nat_lt s.retries limit) counts left counted
        (either s.ssw.mask.blocked waits (after_trap kind.Blocked a s) (inl keeps) (trapped kind.Blocked a)))

    -- An instruction that is done.

    chosen : (b : Bool) (l : StatusWord) (p : ℕ) → stands l.pc l.codes → stands p l.codes
        → stands (if b then record l { pc = p } else l).pc (if b then record l { pc = p } else l).codes
    chosen true l p next there = there
    chosen false l p next there = next

    -- where a condition leads
    jumped : (c : Condition) (code : Code) (l : StatusWord) (p : ℕ)
        → ((j : ℕ) → StaysBy c l.pc j → stands j l.codes) → stands p l.codes
        → stands (if condition_holds c code then record l { pc = p } else l).pc
        (if condition_holds c code then record l { pc = p } else l).codes
    jumped condition.Always code l p to there = there
    jumped c code l p to there = chosen (condition_holds c code) l p (to l.pc refl) there

    skipped : (c : Condition) (code : Code) (l : StatusWord) (p : ℕ)
        → ((j : ℕ) → SkipsTo c l.pc p j → stands j l.codes)
        → stands (if condition_holds c code then record l { pc = p } else l).pc
        (if condition_holds c code then record l { pc = p } else l).codes
    skipped condition.Always code l p to = to p refl
    skipped c code l p to = chosen (condition_holds c code) l p (to l.pc (inl refl)) (to p (inr refl))

    -- A word of up to three operations, by its control operation.
    module _ (a : APart) (c : CPart) where
      abbrev l : StatusWord
      l = ssw_before_control s a

      abbrev x : Code
      x = code_of a.op (register_at s.registers a.ra) (second_operand s a)

      abbrev LedBy : ControlOp → Type 0
      LedBy o = IsLed s.ssw.pc s.ssw.codes a.test c o

      gone : (o : ControlOp) → LedBy o
          → EndsStream (control_by s c o) ⊎ stands (control_ssw s c o l).pc (control_ssw s c o l).codes
      gone control.Jump to =
          inr (jumped c.cond (code_at s.ssw.codes c.code) l (target_at s.targets c.t).pc (λ j e. to.straight j e x)
          (keeps.targets c.t l.codes (to.jumps tt x)))
      gone control.Skip to =
          inr (skipped c.cond (code_at s.ssw.codes c.code) l (skip_pc s.ssw.pc c.n) (λ j e. to.straight j e x))
      gone control.Call to = inr (keeps.targets c.t l.codes (to.jumps tt x))
      gone control.Exchange to = absurd (to.handler tt)
      gone control.TargetSet to = absurd (to.handler tt)
      gone control.Quit to = inl tt
      gone control.QuitKeep to = inl tt
      gone control.Create to = inr (to.straight l.pc refl x)
      gone control.Nop to = inr (to.straight l.pc refl x)
      gone control.TargetGet to = inr (to.straight l.pc refl x)
      gone control.TrapGet to = inr (to.straight l.pc refl x)
      gone control.Reserve to = inr (to.straight l.pc refl x)
      gone control.Mask to = inr (to.straight l.pc refl x)

      handler_held : (o : ControlOp) → LedBy o → past (target_at (control_targets s c o l) 0).pc
      handler_held control.Call to = set_handler s.targets c.u (status_at l.pc) to.handler keeps.handler
      handler_held control.Exchange to = absurd (to.handler tt)
      handler_held control.TargetSet to = absurd (to.handler tt)
      handler_held o to = keeps.handler

      targets_held : (o : ControlOp) → LedBy o → (t : ℕ) → IsAimedAt (target_at (control_targets s c o l) t).pc
      targets_held control.Call to = set_targets s.targets c.u (status_at l.pc) (to.returns tt) keeps.targets
      targets_held control.Exchange to = absurd (to.handler tt)
      targets_held control.TargetSet to = absurd (to.handler tt)
      targets_held o to = keeps.targets

    executed : (i : Insn) (value grant : ℕ) → IsLedBy s.ssw.pc s.ssw.codes i
        → EndsStream (control_of s i) ⊎ IsSteady (after_instruction s i value grant)
    unfolding control_of after_instruction
    executed (Wide look wide.Literal reg imm) value grant to =
        inr (record { here = to.0; handler = keeps.handler; targets = keeps.targets })
    executed (Wide look wide.LiteralHigh reg imm) value grant to =
        inr (record { here = to.0; handler = keeps.handler; targets = keeps.targets })
    executed (Wide look wide.TargetLiteral reg imm) value grant to = inr (record {
      here = to.0;
      handler = set_handler s.targets reg (status_at imm) to.1.1 keeps.handler;
      targets = set_targets s.targets reg (status_at imm) to.1.0 keeps.targets;
    })
    executed (Normal look m a c) value grant to = elim (gone a c c.op to) [
      | inl ends ↦ inl ends
      | inr here ↦ inr (record { here = here; handler = handler_held a c c.op to; targets = targets_held a c c.op to })
    ]

    pub asked : (limit : ℕ) (i : Insn) (grant : ℕ) (r : Option Reply) (q : Option Request)
        → IsLedBy s.ssw.pc s.ssw.codes i
        → (((row_asking limit s i grant r q).1 ≡ outcome.Done) × EndsStream (control_of s i))
        ⊎ KeepsTo (row_asking limit s i grant r q).0
    asked limit i grant r None to =
        elim (executed i 0 grant to) [ inl ends ↦ inl (refl, ends) | inr kept ↦ inr (inl kept) ]
    asked limit i grant None (Some q) to = inr (inl keeps)
    asked limit i grant (Some (reply.Done value)) (Some q) to =
        elim (executed i value grant to) [ inl ends ↦ inl (refl, ends) | inr kept ↦ inr (inl kept) ]
    asked limit i grant (Some (reply.Blocked a)) (Some q) to = inr (blocked limit a)
    asked limit i grant (Some (reply.Trap k a)) (Some q) to = inr (trapped (memory_trap k) a)
