-- A stream that stands at a closed place stands at one after each step of its own, if it still runs.
use Rattle.std.proofs.Common.{◌≡◌, ℕ, ◌+◌, ◌*◌, ◌%◌, ◌^◌, ◌==◌, ◌⊎◌, inl, inr, Bool, true, false, refl, sym, ap, ◌∙◌, subst}
use Rattle.std.proofs.Common.{if◌then◌else◌, nat_lt, Option, Some, None, slice_get}
use Rattle.std.specs.Prelude.{not, ◌||◌, ◌&&◌}
use Rattle.std.proofs.lemmas.Bool.{eq-eqb, or_right}
use Rattle.insn_word.specs.declared.operations.WideOp.TheVariants as wide
use Rattle.insn_word.specs.declared.insn.Insn.{Insn}
use Rattle.insn_word.specs.declared.insn.Insn.TheVariants.{Wide, Normal}
use Rattle.tag_memory.specs.declared.requests.Request.{Request}
use Rattle.tag_memory.specs.declared.requests.Reply.{Reply}
use Rattle.tag_memory.specs.declared.requests.Reply.TheVariants as reply
use Rattle.image_file.specs.ImageValue.{ImageValue}
use Rattle.stream_core.specs.Registers.{target_at}
use Rattle.stream_core.specs.Traps.{trap_number, memory_trap}
use Rattle.stream_core.specs.Streams.{StreamValue, idle, no_handler, cannot_trap, after_trap, after_trap_if}
use Rattle.stream_core.specs.Effects.{request_of, after_instruction}
use Rattle.stream_core.specs.StreamRow.{fetch_word, control_of, control_from, control_at, after_blocked_reply, row_asking, row_from, stream_row}
use Rattle.stream_core.specs.declared.status_words.StatusWord.{StatusWord}
use Rattle.stream_core.specs.declared.traps.TrapKind.{TrapKind}
use Rattle.stream_core.specs.declared.traps.TrapKind.TheVariants as kind
use Rattle.stream_core.specs.declared.steps.Outcome.{Outcome}
use Rattle.stream_core.specs.declared.steps.Outcome.TheVariants as outcome
use Rattle.stream_core.specs.declared.steps.Fetch.{Fetch}
use Rattle.stream_core.specs.declared.steps.Fetch.TheVariants as fetch
use Rattle.stream_core.specs.declared.steps.Control.{Control}
use Rattle.stream_core.specs.declared.steps.Control.TheVariants as asks
use Rattle.processor.specs.Records.{is_running}
use Rattle.processor.specs.Row.{image_fetch}
use Rattle.program_flow.specs.Agreement.{registers_over}
use Rattle.program_flow.specs.Flow.{EndsStream, GoesTo}
use Rattle.program_flow.proofs.Kept.{goes_on}
use Rattle.local_steps.specs.NeverAsking.{ended_by, left_by, own_step, NeverAsks}
use Rattle.local_steps.specs.SettledEndings.{is_settled, stands_settled}
use Rattle.local_steps.specs.CalmPlaces.{IsCalmAt, AreCalm}
use Rattle.local_steps.proofs.Settled.{own_rest, kept_handler, runs_or_not, fetch_runs, are_settled, never_settled}
use Rattle.touched_words.specs.TouchTables.{TouchValue, is_closed, known_at, HoldsKnown}
use Rattle.touched_words.specs.ClosedTables.{IsClosedAt, IsClosedTable}
use Rattle.touched_words.specs.Standing.{IsStanding, IsStandingFrom, IsHeldFrom}

-- what holds of an idle stream and of the one that its instruction leaves holds also after an end

left_held : (P : StreamValue → Type 0) → P idle → (d : Control) (e : StreamValue × Outcome) → P e.0 → P (left_by d e)
left_held P rest asks.Plain e h = h
left_held P rest (asks.Reserve n) e h = h
left_held P rest (asks.Create child) e h = h
left_held P rest asks.Quit e h = by e.1 where
  by : (o : Outcome) → P (ended_by o e.0)
  by outcome.Skipped = h
  by outcome.Done = rest
  by outcome.Blocked = h
  by (outcome.Trapped k) = h
  by (outcome.Stopped k) = h
left_held P rest asks.QuitKeep e h = by e.1 where
  by : (o : Outcome) → P (ended_by o e.0)
  by outcome.Skipped = h
  by outcome.Done = rest
  by outcome.Blocked = h
  by (outcome.Trapped k) = h
  by (outcome.Stopped k) = h

done_held : (P : StreamValue → Type 0) → P idle → (d : Control) (x : StreamValue) → EndsStream d ⊎ P x
    → P (left_by d (x, outcome.Done))
done_held P rest d x (inr h) = left_held P rest d (x, outcome.Done) h
done_held P rest asks.Plain x (inl none) = absurd none
done_held P rest (asks.Reserve n) x (inl none) = absurd none
done_held P rest (asks.Create child) x (inl none) = absurd none
done_held P rest asks.Quit x (inl e) = rest
done_held P rest asks.QuitKeep x (inl e) = rest

-- the registers after an instruction are those of its writes
registers_after : (s : StreamValue) (i : Insn) (value grant : ℕ)
    → registers_over s i value grant s.registers ≡ (after_instruction s i value grant).registers
unfolding after_instruction
registers_after s (Wide look wide.Literal reg imm) value grant = refl
registers_after s (Wide look wide.LiteralHigh reg imm) value grant = refl
registers_after s (Wide look wide.TargetLiteral reg imm) value grant = refl
registers_after s (Normal look m a c) value grant = refl

module _ (v : TouchValue) (k : ℕ) where
  -- Of a stream that stands so.
  module _ (s : StreamValue) (h : IsStandingFrom v k s) where
    cannot : cannot_trap s ≡ true
    cannot =
        or_right s.ssw.in_trap ((target_at s.targets 0).pc == no_handler)
        (eq-eqb (target_at s.targets 0).pc no_handler h.stands.bare)

    stopped_if : (b : Bool) (t : TrapKind) (x : StreamValue) → b ≡ true → IsHeldFrom v k (after_trap_if b t x).0
    stopped_if true t x e = inl refl
    stopped_if false t x e = cc

    stopped : (t : TrapKind) (a : ℕ) → IsHeldFrom v k (after_trap t a s).0
    stopped t a = stopped_if (cannot_trap s) t (record s { xr = trap_number t + a % 2 ^ 48 * 256; retries = 0 }) cannot

    counted : (n : ℕ) → IsHeldFrom v k (record s { retries = n })
    counted n = inr (record {
      stands = record { place = h.stands.place; known = h.stands.known; bare = h.stands.bare };
      touches = h.touches;
      changes = h.changes;
      uses = h.uses;
    })

    either : (b : Bool) (x y : StreamValue × Outcome) → IsHeldFrom v k x.0 → IsHeldFrom v k y.0
        → IsHeldFrom v k (if b then x else y).0
    either true x y first second = first
    either false x y first second = second

    blocked : (limit a : ℕ) → IsHeldFrom v k (after_blocked_reply limit s a).0
    blocked limit a =
        let waits : StreamValue × Outcome = (s, outcome.Blocked) in
        let counts : StreamValue × Outcome = (record s { retries = s.retries + 1 }, outcome.Blocked) in
        let left : StreamValue × Outcome = if s.ssw.mask.blocked then waits else after_trap kind.Blocked a s in
        let more : StreamValue × Outcome = if nat_lt s.retries limit then counts else left in
        either (limit == 0) waits more (inr h)
        (either (nat_lt s.retries limit) counts left (counted (s.retries + 1))
        (either s.ssw.mask.blocked waits (after_trap kind.Blocked a s) (inr h) (stopped kind.Blocked a)))

    executed : (i : Insn) (value : ℕ) → IsClosedAt v s.ssw.pc i
        → EndsStream (control_of s i) ⊎ IsHeldFrom v k (after_instruction s i value 0)
    executed i value closed = by (goes_on s i value 0) where
      by : EndsStream (control_of s i) ⊎ GoesTo i s.ssw.pc (after_instruction s i value 0).ssw.pc
          → EndsStream (control_of s i) ⊎ IsHeldFrom v k (after_instruction s i value 0)
      by (inl ends) = inl ends
      by (inr goes) =
          let on = closed.goes (after_instruction s i value 0).ssw.pc goes in
          inr (inr (record {
            stands = record {
              place = on.closed;
              known =
                  subst (HoldsKnown (known_at v.known (after_instruction s i value 0).ssw.pc))
                  (registers_after s i value 0) (on.known s value 0 h.stands.known);
              bare = ap (λ (x : StatusWord). x.pc) (kept_handler s i value closed.calm) ∙ h.stands.bare;
            };
            touches = λ n marked. h.touches n (on.touches n marked);
            changes = λ n marked. h.changes n (on.changes n marked);
            uses = λ n marked. h.uses n (on.uses n marked);
          }))

    asked : (limit : ℕ) (i : Insn) (r : Option Reply) (q : Option Request) → IsClosedAt v s.ssw.pc i
        → IsHeldFrom v k (left_by (control_of s i) (row_asking limit s i 0 r q))
    asked limit i r None closed =
        done_held (IsHeldFrom v k) (inl refl) (control_of s i) (after_instruction s i 0 0) (executed i 0 closed)
    asked limit i None (Some q) closed =
        left_held (IsHeldFrom v k) (inl refl) (control_of s i) (s, outcome.Skipped) (inr h)
    asked limit i (Some (reply.Done value)) (Some q) closed =
        done_held (IsHeldFrom v k) (inl refl) (control_of s i) (after_instruction s i value 0) (executed i value closed)
    asked limit i (Some (reply.Blocked a)) (Some q) closed =
        left_held (IsHeldFrom v k) (inl refl) (control_of s i) (after_blocked_reply limit s a) (blocked limit a)
    asked limit i (Some (reply.Trap t a)) (Some q) closed =
        left_held (IsHeldFrom v k) (inl refl) (control_of s i) (after_trap (memory_trap t) a s) (stopped (memory_trap t) a)

module _ (image : ImageValue) (v : TouchValue) (closed : IsClosedTable image.profile image.program v) where
  pub finds : (s : StreamValue) → IsStanding v s → is_running s ≡ true
      → (i : Insn) × ((image_fetch image s ≡ fetch.Instruction i) × IsClosedAt v s.ssw.pc i)
  finds s stands runs =
      let found = closed s.ssw.pc stands.place in
      (found.0, (fetch_runs image s runs ∙ found.1.0, found.1.1))

  pub stays : (k : ℕ) (s : StreamValue) (r : Option Reply) → IsHeldFrom v k s → IsHeldFrom v k (own_step image s r)
  unfolding control_at stream_row
  stays k s r (inl none) = subst (IsHeldFrom v k) (sym (own_rest image s r none)) (inl none)
  stays k s r (inr h) = by (runs_or_not (is_running s)) where
    by : (is_running s ≡ false) ⊎ (is_running s ≡ true) → IsHeldFrom v k (own_step image s r)
    by (inl none) = subst (IsHeldFrom v k) (sym (own_rest image s r none)) (inl none)
    by (inr runs) =
        let found = finds s h.stands runs in
        subst (λ f. IsHeldFrom v k (left_by (control_from s f) (row_from image.retry_limit s 0 r f))) (sym found.1.0)
        (asked v k s h image.retry_limit found.0 r (request_of s found.0) found.1.1)

  -- such places are settled
  calm_at : (k : ℕ) (f : Fetch) (i : Insn) → f ≡ fetch.Instruction i → IsClosedAt v k i → IsCalmAt v.closed k f
  calm_at k f i is at =
      subst (IsCalmAt v.closed k) (sym is) (at.calm, λ j goes. (at.goes j goes).closed)

  calm : AreCalm image.profile image.program v.closed
  calm k place =
      let found = closed k place in
      calm_at k (fetch_word image.profile (slice_get image.program k)) found.0 found.1.0 found.1.1

  settled : (b : Bool) (s : StreamValue) → is_running s ≡ b → b ≡ false → is_settled v.closed s ≡ true
  settled b s is none = ap (λ (r : Bool). not r || stands_settled v.closed s) (is ∙ none)

  both : (b c : Bool) → b ≡ true → c ≡ true → (b && c) ≡ true
  both true true e f = refl
  both true false e f = cc
  both false c e f = cc

  stands_so : (s : StreamValue) → IsStanding v s → stands_settled v.closed s ≡ true
  stands_so s h =
      both (is_closed v.closed s.ssw.pc) ((target_at s.targets 0).pc == no_handler) h.place
      (eq-eqb (target_at s.targets 0).pc no_handler h.bare)

  pub never : (k : ℕ) (s : StreamValue) → IsHeldFrom v k s → NeverAsks image s
  never k s (inl none) =
      never_settled image v.closed (are_settled image v.closed calm) s (settled (is_running s) s refl none)
  never k s (inr h) = are_settled image v.closed calm s (stands_so s h.stands)
