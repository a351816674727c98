-- Where reached places lead to reached places only, a stream stands at one, and its target registers hold such places alone,
-- or 0 where nothing has set them: each step of it keeps that.
use Rattle.std.proofs.Common.{◌≡◌, ℕ, zero, suc, ◌+◌, ◌*◌, ◌%◌, ◌^◌, ◌<◌, ◌≤◌, ◌==◌, ◌⊎◌, inl, inr, Bool, true, false, refl, sym}
use Rattle.std.proofs.Common.{subst, if◌then◌else◌, nat_lt, List, length, replicate, Option, Some, None}
use Rattle.std.specs.Prelude.{⊤}
use Rattle.std.proofs.lemmas.Bool.{cases_lt, cases_eq}
use Rattle.std.proofs.lemmas.List.{get_or-set_same, get_or-set_other, set_past}
use Rattle.insn_word.specs.declared.operations.WideOp.TheVariants as wide
use Rattle.insn_word.specs.declared.operations.ControlOp.{ControlOp}
use Rattle.insn_word.specs.declared.operations.ControlOp.TheVariants as control
use Rattle.insn_word.specs.declared.operations.Condition.{Condition}
use Rattle.insn_word.specs.declared.operations.Condition.TheVariants as condition
use Rattle.insn_word.specs.declared.insn.APart.{APart}
use Rattle.insn_word.specs.declared.insn.CPart.{CPart}
use Rattle.insn_word.specs.declared.insn.Insn.{Insn}
use Rattle.insn_word.specs.declared.insn.Insn.TheVariants.{Wide, Normal}
use Rattle.tag_memory.specs.declared.requests.Request.{Request}
use Rattle.tag_memory.specs.declared.requests.Reply.{Reply}
use Rattle.tag_memory.specs.declared.requests.Reply.TheVariants as reply
use Rattle.stream_core.specs.Conditions.{condition_holds}
use Rattle.stream_core.specs.declared.conditions.Code.{Code}
use Rattle.stream_core.specs.Registers.{register_at, target_at, with_target}
use Rattle.stream_core.specs.StatusWords.{status_at, status_from}
use Rattle.stream_core.specs.Traps.{trap_number, memory_trap}
use Rattle.stream_core.specs.Streams.{StreamValue, cannot_trap, after_trap, after_trap_if}
use Rattle.stream_core.specs.Children.{child_stream}
use Rattle.stream_core.specs.Effects.{next_pc, skip_pc, code_at, ssw_before_control, control_ssw, control_targets, after_instruction}
use Rattle.stream_core.specs.StreamRow.{control_by, control_of, after_blocked_reply, row_asking}
use Rattle.stream_core.specs.declared.status_words.StatusWord.{StatusWord}
use Rattle.stream_core.specs.declared.traps.TrapKind.{TrapKind}
use Rattle.stream_core.specs.declared.traps.TrapKind.TheVariants as kind
use Rattle.stream_core.specs.declared.steps.Outcome.{Outcome}
use Rattle.stream_core.specs.declared.steps.Outcome.TheVariants as outcome
use Rattle.stream_core.specs.declared.steps.Control.{Control}
use Rattle.stream_core.specs.declared.steps.Control.TheVariants as asks
use Rattle.stream_core.specs.declared.steps.Child.{Child}
use Rattle.reachable_places.specs.Successors.{where_holding, unset_target, control_successors, successors_of, IsSuccessor}

-- what asks so ends its stream: QUIT and QUITP
abbrev pub Ends : Control → Type 0
Ends asks.Plain = ⊥
Ends (asks.Reserve n) = ⊥
Ends (asks.Create child) = ⊥
Ends asks.Quit = ⊤
Ends asks.QuitKeep = ⊤

unset_at : (n t : ℕ) → (target_at (replicate n (status_at 0)) t).pc ≡ unset_target
unset_at zero t = refl
unset_at (suc n) zero = refl
unset_at (suc n) (suc t) = unset_at n t

module _ (reached : ℕ → Type 0) where
  -- Target registers.

  -- a target register holds a place that is reached, or 0 where nothing has set it
  abbrev MayHold : StatusWord → Type 0
  MayHold x = reached x.pc ⊎ (x.pc ≡ unset_target)

  -- a stream stands at a place that is reached and its t0 holds one; what any target register holds
  pub record KeepsTo (s : StreamValue) : Type 0 where
    pub pc : reached s.ssw.pc
    pub handler : reached (target_at s.targets 0).pc
    pub targets : (t : ℕ) → MayHold (target_at s.targets t)

  -- one target register more is set to a place that is reached
  set_targets : (ts : List StatusWord) (u : ℕ) (x : StatusWord) → reached x.pc → ((t : ℕ) → MayHold (target_at ts t))
      → (t : ℕ) → MayHold (target_at (with_target ts u x) t)
  set_targets ts u x fine all t = by (cases_eq t u) (cases_lt u (length ts)) where
    by : (t ≡ u) ⊎ (t ≡ u → ⊥) → (u < length ts) ⊎ (length ts ≤ u) → MayHold (target_at (with_target ts u x) t)
    by (inr apart) place = subst MayHold (sym (get_or-set_other ts u t x (status_at 0) apart)) (all t)
    by (inl same) (inl within) =
        subst (λ j. MayHold (target_at (with_target ts u x) j)) (sym same)
        (subst MayHold (sym (get_or-set_same ts u x (status_at 0) within)) (inl fine))
    by (inl same) (inr past) = subst (λ xs. MayHold (target_at xs t)) (sym (set_past ts u x past)) (all t)

  set_handler : (ts : List StatusWord) (u : ℕ) (x : StatusWord) → reached x.pc → reached (target_at ts 0).pc
      → reached (target_at (with_target ts u x) 0).pc
  set_handler ts u x fine old = by (cases_eq 0 u) (cases_lt u (length ts)) where
    by : (0 ≡ u) ⊎ (0 ≡ u → ⊥) → (u < length ts) ⊎ (length ts ≤ u) → reached (target_at (with_target ts u x) 0).pc
    by (inr apart) place =
        subst (λ (y : StatusWord). reached y.pc) (sym (get_or-set_other ts u 0 x (status_at 0) apart)) old
    by (inl same) (inl within) =
        subst (λ j. reached (target_at (with_target ts u x) j).pc) (sym same)
        (subst (λ (y : StatusWord). reached y.pc) (sym (get_or-set_same ts u x (status_at 0) within)) fine)
    by (inl same) (inr past) = subst (λ xs. reached (target_at xs 0).pc) (sym (set_past ts u x past)) old

  -- A stream that CREATE starts.

  pub started : (c : Child) → reached c.pc → reached c.t0.pc → KeepsTo (child_stream c)
  started c pc t0 = record {
    pc = pc;
    handler = t0;
    targets = set_targets (replicate 8 (status_at 0)) 0 c.t0 t0 (λ t. inr (unset_at 8 t));
  }

  -- The step of a stream.

  module _ (s : StreamValue) (keeps : KeepsTo s) where
    trapped_if : (b : Bool) (k : TrapKind) (a : ℕ)
        → KeepsTo (after_trap_if b k (record s { xr = trap_number k + a % 2 ^ 48 * 256; retries = 0 })).0
    trapped_if true k a = record { pc = keeps.pc; handler = keeps.handler; targets = keeps.targets }
    trapped_if false k a = record {
      pc = keeps.handler;
      handler = set_handler s.targets 0 s.ssw keeps.pc keeps.handler;
      targets = set_targets s.targets 0 s.ssw keeps.pc keeps.targets;
    }

    pub trapped : (k : TrapKind) (a : ℕ) → KeepsTo (after_trap k a s).0
    trapped k a = trapped_if (cannot_trap s) k a

    either : (b : Bool) (x y : StreamValue × Outcome) → KeepsTo x.0 → KeepsTo y.0 → KeepsTo (if b then x else y).0
    either true x y first second = first
    either false x y first second = second

    counted : KeepsTo (record s { retries = s.retries + 1 })
    counted = record { pc = keeps.pc; handler = keeps.handler; targets = keeps.targets }

    blocked : (limit a : ℕ) → KeepsTo (after_blocked_reply limit s a).0
    blocked limit a =
        let waits : StreamValue × Outcome = (s, outcome.Blocked) in
        let counts : StreamValue × Outcome = (record s { retries = s.retries + 1 }, outcome.Blocked) in
        let left : StreamValue × Outcome = if s.ssw.mask.blocked then waits else after_trap kind.Blocked a s in
        let more : StreamValue × Outcome = if nat_lt s.retries limit then counts else left in
        either (limit == 0) waits more keeps
        (either (nat_lt s.retries limit) counts left counted
        (either s.ssw.mask.blocked waits (after_trap kind.Blocked a s) keeps (trapped kind.Blocked a)))

    -- where a target register leads, if 0 is reached
    pub held : (t : ℕ) → reached unset_target → reached (target_at s.targets t).pc
    held t unset = by (keeps.targets t) where
      by : MayHold (target_at s.targets t) → reached (target_at s.targets t).pc
      by (inl set) = set
      by (inr none) = subst reached (sym none) unset

    chosen : (b : Bool) (l : StatusWord) (p : ℕ) → reached l.pc → reached p
        → reached (if b then record l { pc = p } else l).pc
    chosen true l p next there = there
    chosen false l p next there = next

    -- where a condition leads
    held_where : (c : Condition) (code : Code) (l : StatusWord) (p q : ℕ)
        → ((j : ℕ) → IsSuccessor (where_holding c l.pc q) j → reached j) → (reached q → reached p)
        → reached (if condition_holds c code then record l { pc = p } else l).pc
    held_where condition.Always code l p q to there = there (to q refl)
    held_where c code l p q to there =
        chosen (condition_holds c code) l p (to l.pc (inl refl)) (there (to q (inr refl)))

    -- A word of up to three operations, by its control operation.
    module _ (a : APart) (c : CPart) where
      abbrev l : StatusWord
      l = ssw_before_control s a

      abbrev LeadsBy : ControlOp → Type 0
      LeadsBy o = (j : ℕ) → IsSuccessor (control_successors c o s.ssw.pc) j → reached j

      gone : (o : ControlOp) → LeadsBy o → Ends (control_by s c o) ⊎ reached (control_ssw s c o l).pc
      gone control.Jump to =
          inr (held_where c.cond (code_at s.ssw.codes c.code) l (target_at s.targets c.t).pc unset_target to (held c.t))
      gone control.Skip to =
          inr (held_where c.cond (code_at s.ssw.codes c.code) l (skip_pc s.ssw.pc c.n) (skip_pc s.ssw.pc c.n) to (λ h. h))
      gone control.Call to = inr (held c.t (to unset_target (inr refl)))
      gone control.Exchange to = inr (held c.t (to unset_target (inr refl)))
      gone control.TargetSet to = inr (to l.pc tt)
      gone control.Create to = inr (to l.pc (inl refl))
      gone control.Quit to = inl tt
      gone control.QuitKeep to = inl tt
      gone control.Nop to = inr (to l.pc refl)
      gone control.TargetGet to = inr (to l.pc refl)
      gone control.TrapGet to = inr (to l.pc refl)
      gone control.Reserve to = inr (to l.pc refl)
      gone control.Mask to = inr (to l.pc refl)

      handler_held : (o : ControlOp) → LeadsBy o → reached (target_at (control_targets s c o l) 0).pc
      handler_held control.Call to = set_handler s.targets c.u (status_at l.pc) (to l.pc (inl refl)) keeps.handler
      handler_held control.Exchange to = set_handler s.targets c.t l (to l.pc (inl refl)) keeps.handler
      handler_held control.TargetSet to =
          let x = status_from (register_at s.registers c.ra) in
          set_handler s.targets c.t x (to x.pc tt) keeps.handler
      handler_held o to = keeps.handler

      targets_held : (o : ControlOp) → LeadsBy o → (t : ℕ) → MayHold (target_at (control_targets s c o l) t)
      targets_held control.Call to = set_targets s.targets c.u (status_at l.pc) (to l.pc (inl refl)) keeps.targets
      targets_held control.Exchange to = set_targets s.targets c.t l (to l.pc (inl refl)) keeps.targets
      targets_held control.TargetSet to =
          let x = status_from (register_at s.registers c.ra) in
          set_targets s.targets c.t x (to x.pc tt) keeps.targets
      targets_held o to = keeps.targets

    executed : (i : Insn) (value grant : ℕ) → ((j : ℕ) → IsSuccessor (successors_of i s.ssw.pc) j → reached j)
        → Ends (control_of s i) ⊎ KeepsTo (after_instruction s i value grant)
    unfolding control_of after_instruction
    executed (Wide look wide.Literal reg imm) value grant to =
        inr (record { pc = to (next_pc s.ssw.pc) refl; handler = keeps.handler; targets = keeps.targets })
    executed (Wide look wide.LiteralHigh reg imm) value grant to =
        inr (record { pc = to (next_pc s.ssw.pc) refl; handler = keeps.handler; targets = keeps.targets })
    executed (Wide look wide.TargetLiteral reg imm) value grant to = inr (record {
      pc = to (next_pc s.ssw.pc) (inl refl);
      handler = set_handler s.targets reg (status_at imm) (to imm (inr refl)) keeps.handler;
      targets = set_targets s.targets reg (status_at imm) (to imm (inr refl)) keeps.targets;
    })
    executed (Normal look m a c) value grant to = elim (gone a c c.op to) [
      | inl ends ↦ inl ends
      | inr pc ↦ inr (record { pc = pc; handler = handler_held a c c.op to; targets = targets_held a c c.op to })
    ]

    pub asked : (limit : ℕ) (i : Insn) (grant : ℕ) (r : Option Reply) (q : Option Request)
        → ((j : ℕ) → IsSuccessor (successors_of i s.ssw.pc) j → reached j)
        → (((row_asking limit s i grant r q).1 ≡ outcome.Done) × Ends (control_of s i))
        ⊎ KeepsTo (row_asking limit s i grant r q).0
    asked limit i grant r None to = elim (executed i 0 grant to) [ inl ends ↦ inl (refl, ends) | inr kept ↦ inr kept ]
    asked limit i grant None (Some q) to = inr keeps
    asked limit i grant (Some (reply.Done value)) (Some q) to =
        elim (executed i value grant to) [ inl ends ↦ inl (refl, ends) | inr kept ↦ inr kept ]
    asked limit i grant (Some (reply.Blocked a)) (Some q) to = inr (blocked limit a)
    asked limit i grant (Some (reply.Trap k a)) (Some q) to = inr (trapped (memory_trap k) a)
