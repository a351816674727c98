-- A step of a stream sees no condition code that its instruction does not ask for.
use Rattle.std.proofs.Common.{◌≡◌, ℕ, suc, ◌+◌, ◌*◌, ◌%◌, ◌^◌, ◌<◌, ◌==◌, ◌⊎◌, inl, inr, Bool, true, false, refl, sym, ap, ◌∙◌, subst, arith}
use Rattle.std.proofs.Common.{if◌then◌else◌, nat_lt, Option, Some, None}
use Rattle.std.specs.List.{AllByRecursion}
use Rattle.insn_word.specs.declared.operations.WideOp.TheVariants as wide
use Rattle.insn_word.specs.declared.operations.MemoryOp.{MemoryOp}
use Rattle.insn_word.specs.declared.operations.MemoryOp.TheVariants as memory
use Rattle.insn_word.specs.declared.operations.ControlOp.{ControlOp}
use Rattle.insn_word.specs.declared.operations.ControlOp.TheVariants as control
use Rattle.insn_word.specs.declared.operations.Condition.{Condition}
use Rattle.insn_word.specs.declared.operations.Condition.TheVariants as condition
use Rattle.insn_word.specs.declared.insn.MPart.{MPart}
use Rattle.insn_word.specs.declared.insn.APart.{APart}
use Rattle.insn_word.specs.declared.insn.CPart.{CPart}
use Rattle.insn_word.specs.declared.insn.Insn.{Insn}
use Rattle.insn_word.specs.declared.insn.Insn.TheVariants.{Wide, Normal}
use Rattle.tag_memory.specs.declared.requests.Request.{Request}
use Rattle.tag_memory.specs.declared.requests.Reply.{Reply}
use Rattle.tag_memory.specs.declared.requests.Reply.TheVariants as reply
use Rattle.stream_core.specs.Conditions.{condition_holds}
use Rattle.stream_core.specs.Arithmetic.{code_of}
use Rattle.stream_core.specs.Registers.{register_at, with_register, target_at}
use Rattle.stream_core.specs.StatusWords.{with_newest_code, no_code}
use Rattle.stream_core.specs.Traps.{memory_trap, trap_number}
use Rattle.stream_core.specs.Streams.{StreamValue, cannot_trap, after_trap, after_trap_if}
use Rattle.stream_core.specs.Effects.{request_by, request_of, second_operand, arithmetic_value, retries_after, next_pc, ssw_before_control, code_at, skip_pc}
use Rattle.stream_core.specs.Effects.{control_holds, control_ssw, control_targets, control_value, after_instruction}
use Rattle.stream_core.specs.StreamRow.{control_by, control_of, control_from, after_blocked_reply, row_asking, row_from}
use Rattle.insn_word.specs.Words.{memory_destination, arithmetic_destination, control_destination}
use Rattle.stream_core.specs.declared.conditions.Code.{Code}
use Rattle.stream_core.specs.declared.status_words.Codes.{Codes}
use Rattle.stream_core.specs.declared.status_words.StatusWord.{StatusWord}
use Rattle.stream_core.specs.declared.traps.TrapKind.{TrapKind}
use Rattle.stream_core.specs.declared.traps.TrapKind.TheVariants as kind
use Rattle.stream_core.specs.declared.steps.Outcome.{Outcome}
use Rattle.stream_core.specs.declared.steps.Outcome.TheVariants as outcome
use Rattle.stream_core.specs.declared.steps.Control.{Control}
use Rattle.stream_core.specs.declared.steps.Fetch.{Fetch}
use Rattle.stream_core.specs.declared.steps.Fetch.TheVariants as fetch
use Rattle.program_flow.specs.Flow.{MayTrap, EndsStream}
use Rattle.program_flow.specs.Codes.{with_codes, SameCodes, code_named, codes_if, codes_by, codes_asked, makes_code, CameFrom, HasCodesAt}
use Rattle.program_flow.proofs.Kept.{goes_on, Asks, asks_may_trap}

-- Codes.

pub same_itself : (C : ℕ → Type 0) (cs : Codes) → SameCodes C cs cs
same_itself C cs = record { newest = λ h. refl; second = λ h. refl; third = λ h. refl; oldest = λ h. refl }

pub same_next : (C : ℕ → Type 0) (cs ds es : Codes) → SameCodes C cs ds → SameCodes C ds es → SameCodes C cs es
same_next C cs ds es g h = record {
  newest = λ x. h.newest x ∙ g.newest x;
  second = λ x. h.second x ∙ g.second x;
  third = λ x. h.third x ∙ g.third x;
  oldest = λ x. h.oldest x ∙ g.oldest x;
}

pub same_back : (C : ℕ → Type 0) (cs ds : Codes) → SameCodes C cs ds → SameCodes C ds cs
same_back C cs ds g = record {
  newest = λ x. sym (g.newest x);
  second = λ x. sym (g.second x);
  third = λ x. sym (g.third x);
  oldest = λ x. sym (g.oldest x);
}

-- where all count, all are the same
pub all_same : (C : ℕ → Type 0) (cs ds : Codes) → C 0 → C 1 → C 2 → C 3 → SameCodes C cs ds → ds ≡ cs
all_same C cs ds a b c d g = λ i. record {
  newest = g.newest a i;
  second = g.second b i;
  third = g.third c i;
  oldest = g.oldest d i;
}

same_code : (C : ℕ → Type 0) (cs ds : Codes) (n : ℕ) → SameCodes C cs ds → C (code_named n) → code_at ds n ≡ code_at cs n
same_code C cs ds n g = by (n == 0) (n == 1) (n == 2) where
  by : (x y z : Bool) → C (if x then 0 else if y then 1 else if z then 2 else 3)
      → (if x then ds.newest else if y then ds.second else if z then ds.third else ds.oldest)
      ≡ (if x then cs.newest else if y then cs.second else if z then cs.third else cs.oldest)
  by true y z h = g.newest h
  by false true z h = g.second h
  by false false true h = g.third h
  by false false false h = g.oldest h

-- the codes that an instruction leaves
same_over : (C D : ℕ → Type 0) (cs ds : Codes) (b : Bool) (c : Code) → ((n : ℕ) → n < 4 → D n → CameFrom b C n)
    → SameCodes C cs ds
    → SameCodes D (if b then with_newest_code c cs else cs) (if b then with_newest_code c ds else ds)
same_over C D cs ds true c from g = record {
  newest = λ h. refl;
  second = λ h. g.newest (older 0 (from 1 (omega arith) h));
  third = λ h. g.second (older 1 (from 2 (omega arith) h));
  oldest = λ h. g.third (older 2 (from 3 (omega arith) h));
}
  where
    older : (n : ℕ) → (suc n ≡ 0) ⊎ C n → C n
    older n (inl none) = absurd (let e : ⊥ = cc in e)
    older n (inr was) = was
same_over C D cs ds false c from g = record {
  newest = λ h. g.newest (from 0 (omega arith) h);
  second = λ h. g.second (from 1 (omega arith) h);
  third = λ h. g.third (from 2 (omega arith) h);
  oldest = λ h. g.oldest (from 3 (omega arith) h);
}

-- What it asks.

request_codes_by : (s : StreamValue) (cs : Codes) (m : MPart) (o : MemoryOp)
    → request_by (with_codes s cs) m o ≡ request_by s m o
request_codes_by s cs m memory.Nop = refl
request_codes_by s cs m memory.Load = refl
request_codes_by s cs m memory.Store = refl
request_codes_by s cs m memory.FetchAdd = refl
request_codes_by s cs m memory.TagGet = refl
request_codes_by s cs m memory.TagSet = refl
request_codes_by s cs m memory.Purge = refl

pub request_codes : (s : StreamValue) (cs : Codes) (i : Insn) → request_of (with_codes s cs) i ≡ request_of s i
unfolding request_of
request_codes s cs (Wide look o reg imm) = refl
request_codes s cs (Normal look m a c) = request_codes_by s cs m m.op

control_codes_by : (s : StreamValue) (cs : Codes) (c : CPart) (o : ControlOp)
    → control_by (with_codes s cs) c o ≡ control_by s c o
control_codes_by s cs c control.Reserve = refl
control_codes_by s cs c control.Create = refl
control_codes_by s cs c o = refl

pub control_codes : (s : StreamValue) (cs : Codes) (i : Insn) → control_of (with_codes s cs) i ≡ control_of s i
unfolding control_of
control_codes s cs (Wide look o reg imm) = refl
control_codes s cs (Normal look m a c) = control_codes_by s cs c c.op

-- What it leaves.

-- the streams are the same but for codes, which are the same where they are asked for at the first one's place
abbrev pub Left : (ℕ → ℕ → Type 0) → StreamValue → StreamValue → Type 0
Left asked s t = (ds : Codes) × ((t ≡ with_codes s ds) × SameCodes (asked s.ssw.pc) s.ssw.codes ds)

abbrev pub LeftBy : (ℕ → ℕ → Type 0) → StreamValue × Outcome → StreamValue × Outcome → Type 0
LeftBy asked e z = (z.1 ≡ e.1) × Left asked e.0 z.0

left_itself : (asked : ℕ → ℕ → Type 0) (s : StreamValue) → Left asked s s
left_itself asked s = (s.ssw.codes, (refl, same_itself (asked s.ssw.pc) s.ssw.codes))

module _ (handled : Type 0) (asked : ℕ → ℕ → Type 0) (limit grant : ℕ) (s : StreamValue) (cs : Codes)
    (handler : cannot_trap s ≡ false → handled) (same : SameCodes (asked s.ssw.pc) s.ssw.codes cs) where
  abbrev t : StreamValue
  t = with_codes s cs

  stays : Left asked s t
  stays = (cs, (refl, same))

  if_all : asked s.ssw.pc 0 → asked s.ssw.pc 1 → asked s.ssw.pc 2 → asked s.ssw.pc 3 → t ≡ s
  if_all a b c d = ap (with_codes s) (all_same (asked s.ssw.pc) s.ssw.codes cs a b c d same)

  left_trap : (k : TrapKind) (a : ℕ) → (handled → (c : ℕ) → asked s.ssw.pc c) → LeftBy asked (after_trap k a s) (after_trap k a t)
  left_trap k a all = by (cannot_trap s) refl where
    x : StreamValue
    x = record s { xr = trap_number k + a % 2 ^ 48 * 256; retries = 0 }

    y : StreamValue
    y = record t { xr = trap_number k + a % 2 ^ 48 * 256; retries = 0 }

    by : (b : Bool) → cannot_trap s ≡ b → LeftBy asked (after_trap_if b k x) (after_trap_if b k y)
    by true e = (refl, (cs, (refl, same)))
    by false e =
        let every = all (handler e) in
        subst (λ (u : StreamValue). LeftBy asked (after_trap_if false k x)
        (after_trap_if false k (record u { xr = trap_number k + a % 2 ^ 48 * 256; retries = 0 })))
        (sym (if_all (every 0) (every 1) (every 2) (every 3)))
        (refl, left_itself asked (after_trap_if false k x).0)

  either : (b : Bool) (u v u' v' : StreamValue × Outcome) → LeftBy asked u u' → LeftBy asked v v'
      → LeftBy asked (if b then u else v) (if b then u' else v')
  either true u v u' v' first second = first
  either false u v u' v' first second = second

  left_blocked : (a : ℕ) → (handled → (c : ℕ) → asked s.ssw.pc c)
      → LeftBy asked (after_blocked_reply limit s a) (after_blocked_reply limit t a)
  left_blocked a all =
      either (limit == 0) _ _ _ _ (refl, stays)
      (either (nat_lt s.retries limit) _ _ _ _ (refl, (cs, (refl, same)))
      (either s.ssw.mask.blocked _ _ _ _ (refl, stays) (left_trap kind.Blocked a all)))

  -- an instruction that is done

  holds_same : (cond : Condition) (n : ℕ) → AllByRecursion (asked s.ssw.pc) (codes_if cond n)
      → condition_holds cond (code_at cs n) ≡ condition_holds cond (code_at s.ssw.codes n)
  holds_same condition.Always n h = refl
  holds_same cond n h = ap (condition_holds cond) (same_code (asked s.ssw.pc) s.ssw.codes cs n same h.0)

  module _ (m : MPart) (a : APart) (c : CPart) (value : ℕ) where
    -- the stream after a word of up to three operations
    abbrev after : StreamValue → ControlOp → StreamValue
    after x o = record x {
      registers =
          with_register (with_register (with_register x.registers
          (memory_destination m.op m.rd) value)
          (arithmetic_destination a.op a.rd) (arithmetic_value x a))
          (control_destination o c.rd) (control_value x c o grant);
      targets = control_targets x c o (ssw_before_control x a);
      ssw = control_ssw x c o (ssw_before_control x a);
      retries = retries_after m.op x.retries;
    }

    abbrev code : Code
    code = code_of a.op (register_at s.registers a.ra) (second_operand s a)

    abbrev over : Codes → Codes
    over ds = if a.test then with_newest_code code ds else ds

    From : ℕ → Type 0
    From pc = (n : ℕ) → n < 4 → asked pc n → CameFrom a.test (asked s.ssw.pc) n

    same_then : (pc : ℕ) → From pc → SameCodes (asked pc) (over s.ssw.codes) (over cs)
    unfolding From
    same_then pc from = same_over (asked s.ssw.pc) (asked pc) s.ssw.codes cs a.test code from same

    -- where the condition decides
    choosing : (b d : Bool) (p : ℕ) (o : ControlOp) → d ≡ b
        → (l : StatusWord) → From (if b then record l { pc = p } else l).pc → l.codes ≡ over s.ssw.codes → (x : StreamValue)
        → Left asked (record x { ssw = if b then record l { pc = p } else l })
        (record x { ssw = if d then record (record l { codes = over cs }) { pc = p } else record l { codes = over cs } })
    choosing b d p o e l from is x = (
      over cs,
      (
        ap (λ q. record x { ssw = if q then record (record l { codes = over cs }) { pc = p } else record l { codes = over cs } }) e
            ∙ ap (λ w. record x { ssw = w }) (moved b),
        subst (λ es. SameCodes (asked (if b then record l { pc = p } else l).pc) es (over cs)) (sym (held b ∙ is))
            (same_then (if b then record l { pc = p } else l).pc from),
      ),
    )
      where
        moved : (q : Bool)
            → (if q then record (record l { codes = over cs }) { pc = p } else record l { codes = over cs })
            ≡ record (if q then record l { pc = p } else l) { codes = over cs }
        moved true = refl
        moved false = refl

        held : (q : Bool) → (if q then record l { pc = p } else l).codes ≡ l.codes
        held true = refl
        held false = refl

    left_by : (o : ControlOp) → AllByRecursion (asked s.ssw.pc) (codes_by o c) → From (after s o).ssw.pc
        → Left asked (after s o) (after t o)
    left_by control.Jump h from =
        choosing (control_holds s c) (control_holds t c) (target_at s.targets c.t).pc control.Jump (holds_same c.cond c.code h)
        (ssw_before_control s a) from refl (after s control.Jump)
    left_by control.Skip h from =
        choosing (control_holds s c) (control_holds t c) (skip_pc s.ssw.pc c.n) control.Skip (holds_same c.cond c.code h)
        (ssw_before_control s a) from refl (after s control.Skip)
    left_by control.Exchange h from =
        subst (λ (x : StreamValue). Left asked (after s control.Exchange) (after x control.Exchange))
        (sym (if_all h.0 h.1.0 h.1.1.0 h.1.1.1.0)) (left_itself asked (after s control.Exchange))
    left_by o h from = (over cs, (refl, same_then (after s o).ssw.pc from))

  left_to : (i : Insn) (value : ℕ) → AllByRecursion (asked s.ssw.pc) (codes_asked i)
      → ((n : ℕ) → n < 4 → asked (after_instruction s i value grant).ssw.pc n → CameFrom (makes_code i) (asked s.ssw.pc) n)
      → Left asked (after_instruction s i value grant) (after_instruction t i value grant)
  unfolding after_instruction From
  left_to (Wide look wide.Literal reg imm) value h from =
      (cs, (refl, same_over (asked s.ssw.pc) (asked (next_pc s.ssw.pc)) s.ssw.codes cs false no_code from same))
  left_to (Wide look wide.LiteralHigh reg imm) value h from =
      (cs, (refl, same_over (asked s.ssw.pc) (asked (next_pc s.ssw.pc)) s.ssw.codes cs false no_code from same))
  left_to (Wide look wide.TargetLiteral reg imm) value h from =
      (cs, (refl, same_over (asked s.ssw.pc) (asked (next_pc s.ssw.pc)) s.ssw.codes cs false no_code from same))
  left_to (Normal look m a c) value h from = left_by m a c value c.op h from

  left_done : (i : Insn) (value : ℕ) → HasCodesAt handled asked s.ssw.pc (fetch.Instruction i)
      → EndsStream (control_of s i) ⊎ Left asked (after_instruction s i value grant) (after_instruction t i value grant)
  left_done i value has = elim (goes_on s i value grant) [
    | inl ends ↦ inl ends
    | inr to ↦ inr (left_to i value has.asks
        (λ n below h. has.goes i refl (after_instruction s i value grant).ssw.pc n below to h))
  ]

  -- the row

  abbrev Comes : StreamValue × Outcome → StreamValue × Outcome → Control → Type 0
  Comes e z c = (z.1 ≡ e.1) × (((e.1 ≡ outcome.Done) × EndsStream c) ⊎ Left asked e.0 z.0)

  comes_done : (i : Insn) (value : ℕ) → HasCodesAt handled asked s.ssw.pc (fetch.Instruction i)
      → Comes (after_instruction s i value grant, outcome.Done) (after_instruction t i value grant, outcome.Done) (control_of s i)
  comes_done i value has = (refl, elim (left_done i value has) [ inl e ↦ inl (refl, e) | inr h ↦ inr h ])

  comes_asking : (i : Insn) (r : Option Reply) (q : Option Request) → HasCodesAt handled asked s.ssw.pc (fetch.Instruction i)
      → (Asks q → MayTrap (fetch.Instruction i))
      → Comes (row_asking limit s i grant r q) (row_asking limit t i grant r q) (control_of s i)
  unfolding Asks
  comes_asking i r None has asks = comes_done i 0 has
  comes_asking i None (Some q) has asks = (refl, inr stays)
  comes_asking i (Some (reply.Done value)) (Some q) has asks = comes_done i value has
  comes_asking i (Some (reply.Blocked a)) (Some q) has asks =
      let x = left_blocked a (has.traps (asks tt)) in (x.0, inr x.1)
  comes_asking i (Some (reply.Trap k a)) (Some q) has asks =
      let x = left_trap (memory_trap k) a (has.traps (asks tt)) in (x.0, inr x.1)

  pub codes_kept : (r : Option Reply) (f : Fetch) → HasCodesAt handled asked s.ssw.pc f
      → Comes (row_from limit s grant r f) (row_from limit t grant r f) (control_from s f)
  codes_kept r fetch.Rest has = (refl, inr stays)
  codes_kept r (fetch.Trap k) has = let x = left_trap k 0 (has.traps tt) in (x.0, inr x.1)
  codes_kept r (fetch.Instruction i) has =
      subst (λ q. Comes (row_asking limit s i grant r (request_of s i)) (row_asking limit t i grant r q) (control_of s i))
      (sym (request_codes s cs i)) (comes_asking i r (request_of s i) has (asks_may_trap s i))
