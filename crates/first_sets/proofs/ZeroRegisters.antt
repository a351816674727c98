-- r0 of each stream is 0 after each schedule.
use Rattle.std.proofs.Common.{◌≡◌, ◌≢◌, ℕ, zero, suc, ◌+◌, ◌*◌, ◌%◌, ◌^◌, ◌<◌, ◌≤◌, ◌==◌, ◌⊎◌, inl, inr, Bool, true, false, refl, sym, ap}
use Rattle.std.proofs.Common.{◌∙◌, subst, if◌then◌else◌, nat_lt, List, [], ◌∷◌, map, length, set, replicate, Option, Some, None, slice_get}
use Rattle.std.proofs.lemmas.Bool.{cases_lt, eqb-false}
use Rattle.std.proofs.lemmas.List.{get_or-set_same, get_or-set_other, set_past}
use Rattle.insn_word.specs.Words.{memory_destination, arithmetic_destination, control_destination}
use Rattle.insn_word.specs.declared.operations.WideOp.TheVariants as wide
use Rattle.insn_word.specs.declared.operations.ControlOp.{ControlOp}
use Rattle.insn_word.specs.declared.operations.ControlOp.TheVariants as control
use Rattle.insn_word.specs.declared.insn.CPart.{CPart}
use Rattle.insn_word.specs.declared.insn.Insn.{Insn}
use Rattle.insn_word.specs.declared.insn.Insn.TheVariants.{Wide, Normal}
use Rattle.tag_memory.specs.Storage.{TaggedMemory}
use Rattle.tag_memory.specs.declared.requests.Request.{Request}
use Rattle.tag_memory.specs.declared.requests.Reply.{Reply}
use Rattle.tag_memory.specs.declared.requests.Reply.TheVariants as reply
use Rattle.image_file.specs.ImageValue.{ImageValue}
use Rattle.stream_core.specs.Registers.{register_at, with_register}
use Rattle.stream_core.specs.Traps.{trap_number, memory_trap}
use Rattle.stream_core.specs.Streams.{StreamValue, idle, cannot_trap, after_trap, after_trap_if}
use Rattle.stream_core.specs.Effects.{request_of, arithmetic_value, control_value, after_instruction}
use Rattle.stream_core.specs.StreamRow.{control_by, control_of, after_blocked_reply, row_asking}
use Rattle.stream_core.specs.declared.traps.TrapKind.{TrapKind}
use Rattle.stream_core.specs.declared.traps.TrapKind.TheVariants as kind
use Rattle.stream_core.specs.declared.steps.Outcome.{Outcome}
use Rattle.stream_core.specs.declared.steps.Outcome.TheVariants as outcome
use Rattle.stream_core.specs.declared.steps.Fetch.{Fetch}
use Rattle.stream_core.specs.declared.steps.Fetch.TheVariants as fetch
use Rattle.processor.specs.Processors.{ProcessorValue, stream_at, first_stream, opening}
use Rattle.processor.specs.Row.{step_fetch_of, request_on_fetch, grant_of, with_stream, lowest_idle, after_control}
use Rattle.processor.specs.Row.{after_control_if_done, row_on_fetch, memory_reply, row_over_memory}
use Rattle.processor.specs.World.{World, start, after}
use Rattle.processor.specs.declared.steps.Step.{Step}
use Rattle.processor.proofs.Begun.{row_over_memory_begun}
use Rattle.processor.proofs.Histories.{after-absent, get_set_other}
use Rattle.local_steps.proofs.Commuting.{there_same, put, after_there}
use Rattle.local_steps.proofs.Orders.{same_or_other}

abbrev pub IsZero : StreamValue → Type 0
IsZero s = register_at s.registers 0 ≡ 0

kept_zero : (rs : List ℕ) (d v : ℕ) → register_at (with_register rs d v) 0 ≡ register_at rs 0
kept_zero rs d v = by (d == 0) refl where
  by : (b : Bool) → (d == 0) ≡ b → register_at (if b then rs else set rs d v) 0 ≡ register_at rs 0
  by true e = refl
  by false e = get_or-set_other rs d 0 v 0 (λ z. eqb-false d 0 e (sym z))

idle_zero : IsZero idle
idle_zero = refl

kept_instruction : (s : StreamValue) (i : Insn) (value grant : ℕ)
    → register_at (after_instruction s i value grant).registers 0 ≡ register_at s.registers 0
unfolding after_instruction
kept_instruction s (Wide look wide.Literal reg imm) value grant = kept_zero s.registers reg imm
kept_instruction s (Wide look wide.LiteralHigh reg imm) value grant = kept_zero s.registers reg _
kept_instruction s (Wide look wide.TargetLiteral reg imm) value grant = refl
kept_instruction s (Normal look m a c) value grant =
    let once = with_register s.registers (memory_destination m.op m.rd) value in
    let twice = with_register once (arithmetic_destination a.op a.rd) (arithmetic_value s a) in
    kept_zero twice (control_destination c.op c.rd) (control_value s c c.op grant)
    ∙ kept_zero once (arithmetic_destination a.op a.rd) (arithmetic_value s a)
    ∙ kept_zero s.registers (memory_destination m.op m.rd) value

-- The step of a stream.
module _ (s : StreamValue) (is : IsZero s) where
  trapped_if : (b : Bool) (k : TrapKind) (x : StreamValue) → IsZero x → IsZero (after_trap_if b k x).0
  trapped_if true k x e = e
  trapped_if false k x e = e

  trapped : (k : TrapKind) (a : ℕ) → IsZero (after_trap k a s).0
  trapped k a = trapped_if (cannot_trap s) k (record s { xr = trap_number k + a % 2 ^ 48 * 256; retries = 0 }) is

  either : (b : Bool) (x y : StreamValue × Outcome) → IsZero x.0 → IsZero y.0 → IsZero (if b then x else y).0
  either true x y first second = first
  either false x y first second = second

  blocked : (limit a : ℕ) → IsZero (after_blocked_reply limit s a).0
  blocked limit a =
      let waits : StreamValue × Outcome = (s, outcome.Blocked) in
      let counts : StreamValue × Outcome = (record s { retries = s.retries + 1 }, outcome.Blocked) in
      let left : StreamValue × Outcome = if s.ssw.mask.blocked then waits else after_trap kind.Blocked a s in
      let more : StreamValue × Outcome = if nat_lt s.retries limit then counts else left in
      either (limit == 0) waits more is
      (either (nat_lt s.retries limit) counts left is
      (either s.ssw.mask.blocked waits (after_trap kind.Blocked a s) is (trapped kind.Blocked a)))

  executed : (i : Insn) (value grant : ℕ) → IsZero (after_instruction s i value grant)
  executed i value grant = kept_instruction s i value grant ∙ is

  asked : (limit : ℕ) (i : Insn) (grant : ℕ) (r : Option Reply) (q : Option Request)
      → IsZero (row_asking limit s i grant r q).0
  asked limit i grant r None = executed i 0 grant
  asked limit i grant None (Some q) = is
  asked limit i grant (Some (reply.Done value)) (Some q) = executed i value grant
  asked limit i grant (Some (reply.Blocked a)) (Some q) = blocked limit a
  asked limit i grant (Some (reply.Trap k a)) (Some q) = trapped (memory_trap k) a

-- Processors.

abbrev AreZero : ProcessorValue → Type 0
AreZero proc = (k : ℕ) → IsZero (stream_at proc.streams k)

placed : (ss : List StreamValue) (n : ℕ) (x : StreamValue) → ((k : ℕ) → IsZero (stream_at ss k)) → IsZero x
    → (k : ℕ) → IsZero (stream_at (set ss n x) k)
placed ss n x all one k = by (same_or_other k n) (cases_lt n (length ss)) where
  by : (k ≡ n) ⊎ (k ≢ n) → (n < length ss) ⊎ (length ss ≤ n) → IsZero (stream_at (set ss n x) k)
  by (inr apart) place = subst IsZero (sym (get_or-set_other ss n k x idle apart)) (all k)
  by (inl same) (inl within) =
      subst (λ j. IsZero (stream_at (set ss n x) j)) (sym same) (subst IsZero (sym (get_or-set_same ss n x idle within)) one)
  by (inl same) (inr past) = subst (λ xs. IsZero (stream_at xs k)) (sym (set_past ss n x past)) (all k)

controlled : (s : StreamValue) (c : CPart) (o : ControlOp) (proc : ProcessorValue) (n grant : ℕ) → AreZero proc
    → AreZero (after_control proc n grant (control_by s c o))
controlled s c control.Create proc n grant all =
    placed proc.streams (lowest_idle proc) _ all (kept_zero (replicate 32 0) 1 (register_at s.registers c.ra))
controlled s c control.Quit proc n grant all = placed proc.streams n idle all idle_zero
controlled s c control.QuitKeep proc n grant all = placed proc.streams n idle all idle_zero
controlled s c o proc n grant all = all

asks_zero : (s : StreamValue) (i : Insn) (proc : ProcessorValue) (n grant : ℕ) → AreZero proc
    → AreZero (after_control proc n grant (control_of s i))
unfolding control_of
asks_zero s (Wide look o reg imm) proc n grant all = all
asks_zero s (Normal look m a c) proc n grant all = controlled s c c.op proc n grant all

done_zero : (s : StreamValue) (i : Insn) (proc : ProcessorValue) (n grant : ℕ) (o : Outcome) → AreZero proc
    → AreZero (after_control_if_done proc n grant (control_of s i) o)
done_zero s i proc n grant outcome.Done all = asks_zero s i proc n grant all
done_zero s i proc n grant o all = all

module _ (image : ImageValue) (proc : ProcessorValue) (n : ℕ) (all : AreZero proc) where
  abbrev own : StreamValue
  own = stream_at proc.streams n

  row_zero : (r : Option Reply) (f : Fetch) → AreZero (row_on_fetch image proc n r own f).0
  row_zero r fetch.Rest = all
  row_zero r (fetch.Trap k) = placed proc.streams n _ all (trapped own (all n) k 0)
  row_zero r (fetch.Instruction i) =
      let grant = grant_of image proc (control_of own i) in
      let x = row_asking image.retry_limit own i grant r (request_of own i) in
      done_zero own i (with_stream proc n x.0) n grant x.1
      (placed proc.streams n x.0 all (asked own (all n) image.retry_limit i grant r (request_of own i)))

  over_zero : (m : TaggedMemory) → AreZero (row_over_memory image proc n m).0.0
  over_zero m =
      let f = step_fetch_of image proc n in
      let e = memory_reply m (request_on_fetch own f) in
      subst (λ (x : (ProcessorValue × Outcome) × TaggedMemory). AreZero x.0.0)
      (row_over_memory_begun image proc n m e.0 f e.1 refl refl) (row_zero e.1 f)

-- Worlds.

-- r0 of each stream is 0
abbrev pub AreAllZero : World → Type 0
AreAllZero w = (p : ℕ) (proc : ProcessorValue) → slice_get w.processors p ≡ Some proc → (k : ℕ) → IsZero (stream_at proc.streams k)

inside : {u v : ProcessorValue} → Some u ≡ Some v → u ≡ v
inside e = cc

module _ (image : ImageValue) where
  pub after_zero : (w : World) (t : Step) → AreAllZero w → AreAllZero (after image w t)
  after_zero w t zeros = by (slice_get w.processors t.p) refl where
    by : (o : Option ProcessorValue) → slice_get w.processors t.p ≡ o → AreAllZero (after image w t)
    by None none = subst AreAllZero (sym (after-absent image w t none)) zeros
    by (Some proc) there = subst AreAllZero (sym (after_there image w t proc there)) put_zero where
      left : ProcessorValue
      left = (row_over_memory image proc t.s w.memory).0.0

      put_zero : AreAllZero (put w t.p (row_over_memory image proc t.s w.memory))
      put_zero p q got k = at_place (same_or_other p t.p) where
        at_place : (p ≡ t.p) ⊎ (p ≢ t.p) → IsZero (stream_at q.streams k)
        at_place (inr apart) = zeros p q (sym (get_set_other w.processors t.p p left apart) ∙ got) k
        at_place (inl same) =
            let is : Some left ≡ Some q =
            sym (there_same w.processors t.p proc left there) ∙ ap (slice_get (set w.processors t.p left)) (sym same) ∙ got in
            subst AreZero (inside is) (over_zero image proc t.s (zeros t.p proc there) w.memory) k

  -- At the start.

  idle_streams : (n k : ℕ) → stream_at (replicate n idle) k ≡ idle
  idle_streams zero k = refl
  idle_streams (suc n) zero = refl
  idle_streams (suc n) (suc k) = idle_streams n k

  opening_zero : (entry : ℕ) → AreZero (opening image entry)
  unfolding opening
  opening_zero entry =
      placed (replicate image.slim idle) 0 (first_stream image entry)
      (λ k. subst IsZero (sym (idle_streams image.slim k)) idle_zero) (kept_zero (replicate 32 0) 1 0)

  opened_zero : (es : List ℕ) (p : ℕ) (proc : ProcessorValue) → slice_get (map (opening image) es) p ≡ Some proc → AreZero proc
  opened_zero [] p proc got = let none : ⊥ = cc in absurd none
  opened_zero (e ∷ es) zero proc got = subst AreZero (inside got) (opening_zero e)
  opened_zero (e ∷ es) (suc p) proc got = opened_zero es p proc got

  pub start_zero : AreAllZero (start image)
  unfolding start
  start_zero p proc got = opened_zero image.entries p proc got
