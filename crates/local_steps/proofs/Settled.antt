-- Where no way leads to a RESERVE or CREATE, a stream never asks for a stream.
use Rattle.std.proofs.Common.{◌≡◌, ℕ, ◌+◌, ◌*◌, ◌%◌, ◌^◌, ◌==◌, ◌&&◌, ◌||◌, ◌⊎◌, inl, inr, Bool, true, false, refl, sym, ap, ◌∙◌, subst}
use Rattle.std.proofs.Common.{◌<◌, ◌≤◌, length, if◌then◌else◌, not, nat_lt, List, [], ◌∷◌, Option, Some, None, slice_get}
use Rattle.std.specs.Prelude.{IsTrue}
use Rattle.std.proofs.lemmas.Bool.{cases_lt, eqb-true, eqb-false, eq-eqb, or_right}
use Rattle.std.proofs.lemmas.List.{get_or-set_other, get_or_past}
use Rattle.insn_word.specs.declared.operations.WideOp.TheVariants as wide
use Rattle.insn_word.specs.declared.operations.ControlOp.{ControlOp}
use Rattle.insn_word.specs.declared.operations.ControlOp.TheVariants as control
use Rattle.insn_word.specs.declared.profiles.Profile.{Profile}
use Rattle.insn_word.specs.declared.insn.CPart.{CPart}
use Rattle.insn_word.specs.declared.insn.Insn.{Insn}
use Rattle.insn_word.specs.declared.insn.Insn.TheVariants.{Wide, Normal}
use Rattle.tag_memory.specs.declared.requests.Request.{Request}
use Rattle.tag_memory.specs.declared.requests.Reply.{Reply}
use Rattle.tag_memory.specs.declared.requests.Reply.TheVariants as reply
use Rattle.image_file.specs.ImageValue.{ImageValue}
use Rattle.stream_core.specs.Registers.{register_at, target_at, with_target}
use Rattle.stream_core.specs.StatusWords.{status_at, status_from}
use Rattle.stream_core.specs.Traps.{trap_number, memory_trap}
use Rattle.stream_core.specs.Streams.{StreamValue, no_handler, cannot_trap, after_trap, after_trap_if}
use Rattle.stream_core.specs.Effects.{request_of, ssw_before_control, control_targets, after_instruction}
use Rattle.stream_core.specs.StreamRow.{fetch_of, fetch_if, fetch_word, control_by, control_of, control_from, control_at}
use Rattle.stream_core.specs.StreamRow.{after_blocked_reply, row_asking, row_from, stream_row}
use Rattle.stream_core.specs.declared.status_words.StatusWord.{StatusWord}
use Rattle.stream_core.specs.declared.traps.TrapKind.{TrapKind}
use Rattle.stream_core.specs.declared.traps.TrapKind.TheVariants as kind
use Rattle.stream_core.specs.declared.steps.Status.{Status}
use Rattle.stream_core.specs.declared.steps.Status.TheVariants.{Idle, Running, Stopped}
use Rattle.stream_core.specs.declared.steps.Outcome.{Outcome}
use Rattle.stream_core.specs.declared.steps.Outcome.TheVariants as outcome
use Rattle.stream_core.specs.declared.steps.Fetch.{Fetch}
use Rattle.stream_core.specs.declared.steps.Fetch.TheVariants as fetch
use Rattle.stream_core.specs.declared.steps.Control.{Control}
use Rattle.stream_core.specs.declared.steps.Control.TheVariants as asks
use Rattle.processor.specs.Processors.{stream_at}
use Rattle.processor.specs.Records.{is_running, is_running_status}
use Rattle.processor.specs.Row.{image_fetch}
use Rattle.processor.specs.World.{World}
use Rattle.processor.specs.declared.steps.Step.{Step}
use Rattle.program_flow.specs.Flow.{EndsStream, GoesTo}
use Rattle.program_flow.proofs.Kept.{goes_on}
use Rattle.local_steps.specs.NeverAsking.{AsksForNone, ended_by, left_by, own_step, own_steps, NeverAsks}
use Rattle.local_steps.specs.EndingSteps.{IsEndingStep}
use Rattle.local_steps.specs.SettledEndings.{is_settled_place, stands_settled, is_settled, AreSettled, IsSettledEnding}
use Rattle.local_steps.specs.CalmPlaces.{is_calm_control, is_calm, IsCalmAt, AreCalm}
use Rattle.local_steps.proofs.Ended.{rest_status}

-- A stream that does not run.

rests : (image : ImageValue) (s : StreamValue) → is_running s ≡ false → image_fetch image s ≡ fetch.Rest
unfolding fetch_of
rests image s none = rest_status image.profile s.status image.program s.ssw.pc none

pub own_rest : (image : ImageValue) (s : StreamValue) (r : Option Reply) → is_running s ≡ false → own_step image s r ≡ s
unfolding control_at stream_row
own_rest image s r none =
    ap (λ f. left_by (control_from s f) (row_from image.retry_limit s 0 r f)) (rests image s none)

asks_rest : (image : ImageValue) (s : StreamValue) → is_running s ≡ false
    → AsksForNone (control_at image.profile image.program s)
unfolding control_at
asks_rest image s none = subst (λ f. AsksForNone (control_from s f)) (sym (rests image s none)) tt

-- What a calm instruction leaves.

not_zero : (t : ℕ) → not (t == 0) ≡ true → (t == 0) ≡ false
not_zero t e = by (t == 0) e where
  by : (b : Bool) → not b ≡ true → b ≡ false
  by true e = cc
  by false e = refl

kept_target : (ts : List StatusWord) (t : ℕ) (x : StatusWord) → (t == 0) ≡ false
    → target_at (with_target ts t x) 0 ≡ target_at ts 0
kept_target ts t x e = get_or-set_other ts t 0 x (status_at 0) (λ z. eqb-false t 0 e (sym z))

kept_by_control : (s : StreamValue) (c : CPart) (o : ControlOp) (l : StatusWord) → is_calm_control o c.t ≡ true
    → target_at (control_targets s c o l) 0 ≡ target_at s.targets 0
kept_by_control s c control.Call l e = cc
kept_by_control s c control.Exchange l e = cc
kept_by_control s c control.TargetSet l e =
    kept_target s.targets c.t (status_from (register_at s.registers c.ra)) (not_zero c.t e)
kept_by_control s c o l e = refl

pub kept_handler : (s : StreamValue) (i : Insn) (value : ℕ) → is_calm i ≡ true
    → target_at (after_instruction s i value 0).targets 0 ≡ target_at s.targets 0
unfolding after_instruction
kept_handler s (Wide look wide.Literal reg imm) value e = refl
kept_handler s (Wide look wide.LiteralHigh reg imm) value e = refl
kept_handler s (Wide look wide.TargetLiteral reg imm) value e =
    kept_target s.targets reg (status_at imm) (not_zero reg e)
kept_handler s (Normal look m a c) value e = kept_by_control s c c.op (ssw_before_control s a) e

asks_by : (s : StreamValue) (c : CPart) (o : ControlOp) → is_calm_control o c.t ≡ true → AsksForNone (control_by s c o)
asks_by s c control.Reserve e = cc
asks_by s c control.Create e = cc
asks_by s c control.Quit e = tt
asks_by s c control.QuitKeep e = tt
asks_by s c o e = tt

asks_calm : (s : StreamValue) (i : Insn) → is_calm i ≡ true → AsksForNone (control_of s i)
unfolding control_of
asks_calm s (Wide look op reg imm) e = tt
asks_calm s (Normal look m a c) e = asks_by s c c.op e

-- The steps of a stream at a settled place.

pub both_true : (a b : Bool) → (a && b) ≡ true → (a ≡ true) × (b ≡ true)
both_true true true e = (refl, refl)
both_true true false e = cc
both_true false true e = cc
both_true false false e = cc

-- a stream does not run, or stands at a settled place, and has no handler
abbrev IsHeld : List Bool → StreamValue → Type 0
IsHeld places s =
    (is_running s ≡ false)
    ⊎ ((is_settled_place places s.ssw.pc ≡ true) × ((target_at s.targets 0).pc ≡ no_handler))

-- so it is after an end, too
held_left : (places : List Bool) (d : Control) (e : StreamValue × Outcome) → IsHeld places e.0 → IsHeld places (left_by d e)
held_left places asks.Plain e h = h
held_left places (asks.Reserve n) e h = h
held_left places (asks.Create child) e h = h
held_left places asks.Quit e h = by e.1 where
  by : (o : Outcome) → IsHeld places (ended_by o e.0)
  by outcome.Skipped = h
  by outcome.Done = inl refl
  by outcome.Blocked = h
  by (outcome.Trapped k) = h
  by (outcome.Stopped k) = h
held_left places asks.QuitKeep e h = by e.1 where
  by : (o : Outcome) → IsHeld places (ended_by o e.0)
  by outcome.Skipped = h
  by outcome.Done = inl refl
  by outcome.Blocked = h
  by (outcome.Trapped k) = h
  by (outcome.Stopped k) = h

held_done : (places : List Bool) (d : Control) (x : StreamValue) → EndsStream d ⊎ IsHeld places x
    → IsHeld places (left_by d (x, outcome.Done))
held_done places d x (inr h) = held_left places d (x, outcome.Done) h
held_done places asks.Plain x (inl none) = absurd none
held_done places (asks.Reserve n) x (inl none) = absurd none
held_done places (asks.Create child) x (inl none) = absurd none
held_done places asks.Quit x (inl e) = inl refl
held_done places asks.QuitKeep x (inl e) = inl refl

module _ (places : List Bool) (s : StreamValue) (at : is_settled_place places s.ssw.pc ≡ true)
    (bare : (target_at s.targets 0).pc ≡ no_handler) where
  cannot : cannot_trap s ≡ true
  cannot = or_right s.ssw.in_trap ((target_at s.targets 0).pc == no_handler) (eq-eqb (target_at s.targets 0).pc no_handler bare)

  stopped_if : (b : Bool) (k : TrapKind) (x : StreamValue) → b ≡ true → IsHeld places (after_trap_if b k x).0
  stopped_if true k x e = inl refl
  stopped_if false k x e = cc

  stopped : (k : TrapKind) (a : ℕ) → IsHeld places (after_trap k a s).0
  stopped k a = stopped_if (cannot_trap s) k (record s { xr = trap_number k + a % 2 ^ 48 * 256; retries = 0 }) cannot

  either : (b : Bool) (x y : StreamValue × Outcome) → IsHeld places x.0 → IsHeld places y.0
      → IsHeld places (if b then x else y).0
  either true x y first second = first
  either false x y first second = second

  blocked : (limit a : ℕ) → IsHeld places (after_blocked_reply limit s a).0
  blocked limit a =
      let waits : StreamValue × Outcome = (s, outcome.Blocked) in
      let counts : StreamValue × Outcome = (record s { retries = s.retries + 1 }, outcome.Blocked) in
      let left : StreamValue × Outcome = if s.ssw.mask.blocked then waits else after_trap kind.Blocked a s in
      let more : StreamValue × Outcome = if nat_lt s.retries limit then counts else left in
      either (limit == 0) waits more (inr (at, bare))
      (either (nat_lt s.retries limit) counts left (inr (at, bare))
      (either s.ssw.mask.blocked waits (after_trap kind.Blocked a s) (inr (at, bare)) (stopped kind.Blocked a)))

  executed : (i : Insn) (value : ℕ) → IsCalmAt places s.ssw.pc (fetch.Instruction i)
      → EndsStream (control_of s i) ⊎ IsHeld places (after_instruction s i value 0)
  executed i value calm = by (goes_on s i value 0) where
    by : EndsStream (control_of s i) ⊎ GoesTo i s.ssw.pc (after_instruction s i value 0).ssw.pc
        → EndsStream (control_of s i) ⊎ IsHeld places (after_instruction s i value 0)
    by (inl ends) = inl ends
    by (inr goes) = inr (inr (
      calm.1 (after_instruction s i value 0).ssw.pc goes,
      ap (λ (x : StatusWord). x.pc) (kept_handler s i value calm.0) ∙ bare,
    ))

  asked : (limit : ℕ) (i : Insn) (r : Option Reply) (q : Option Request) → IsCalmAt places s.ssw.pc (fetch.Instruction i)
      → IsHeld places (left_by (control_of s i) (row_asking limit s i 0 r q))
  asked limit i r None calm = held_done places (control_of s i) (after_instruction s i 0 0) (executed i 0 calm)
  asked limit i None (Some q) calm = held_left places (control_of s i) (s, outcome.Skipped) (inr (at, bare))
  asked limit i (Some (reply.Done value)) (Some q) calm =
      held_done places (control_of s i) (after_instruction s i value 0) (executed i value calm)
  asked limit i (Some (reply.Blocked a)) (Some q) calm =
      held_left places (control_of s i) (after_blocked_reply limit s a) (blocked limit a)
  asked limit i (Some (reply.Trap k a)) (Some q) calm =
      held_left places (control_of s i) (after_trap (memory_trap k) a s) (stopped (memory_trap k) a)

  held_from : (limit : ℕ) (r : Option Reply) (f : Fetch) → IsCalmAt places s.ssw.pc f
      → IsHeld places (left_by (control_from s f) (row_from limit s 0 r f))
  held_from limit r fetch.Rest calm = inr (at, bare)
  held_from limit r (fetch.Trap k) calm = stopped k 0
  held_from limit r (fetch.Instruction i) calm = asked limit i r (request_of s i) calm

  asks_from : (f : Fetch) → IsCalmAt places s.ssw.pc f → AsksForNone (control_from s f)
  asks_from fetch.Rest calm = tt
  asks_from (fetch.Trap k) calm = tt
  asks_from (fetch.Instruction i) calm = asks_calm s i calm.0

-- whether it runs or not
pub runs_or_not : (b : Bool) → (b ≡ false) ⊎ (b ≡ true)
runs_or_not true = inr refl
runs_or_not false = inl refl

pub fetch_runs : (image : ImageValue) (s : StreamValue) → is_running s ≡ true
    → image_fetch image s ≡ fetch_word image.profile (slice_get image.program s.ssw.pc)
unfolding fetch_of
fetch_runs image s runs = by s.status runs where
  by : (st : Status) → is_running_status st ≡ true
      → fetch_if image.profile st image.program s.ssw.pc ≡ fetch_word image.profile (slice_get image.program s.ssw.pc)
  by Idle e = cc
  by Running e = refl
  by (Stopped k) e = cc

module _ (image : ImageValue) (places : List Bool) (calm : AreCalm image.profile image.program places) where
  calm_there : (s : StreamValue) → is_running s ≡ true → is_settled_place places s.ssw.pc ≡ true
      → IsCalmAt places s.ssw.pc (image_fetch image s)
  calm_there s runs at = subst (IsCalmAt places s.ssw.pc) (sym (fetch_runs image s runs)) (calm s.ssw.pc at)

  held_next : (s : StreamValue) (r : Option Reply) → IsHeld places s → IsHeld places (own_step image s r)
  unfolding control_at stream_row
  held_next s r (inl none) = subst (IsHeld places) (sym (own_rest image s r none)) (inl none)
  held_next s r (inr h) = by (runs_or_not (is_running s)) where
    by : (is_running s ≡ false) ⊎ (is_running s ≡ true) → IsHeld places (own_step image s r)
    by (inl none) = subst (IsHeld places) (sym (own_rest image s r none)) (inl none)
    by (inr runs) = held_from places s h.0 h.1 image.retry_limit r (image_fetch image s) (calm_there s runs h.0)

  asks_held : (s : StreamValue) → IsHeld places s → AsksForNone (control_at image.profile image.program s)
  unfolding control_at
  asks_held s (inl none) = asks_rest image s none
  asks_held s (inr h) = by (runs_or_not (is_running s)) where
    by : (is_running s ≡ false) ⊎ (is_running s ≡ true) → AsksForNone (control_at image.profile image.program s)
    by (inl none) = asks_rest image s none
    by (inr runs) = asks_from places s h.0 h.1 (image_fetch image s) (calm_there s runs h.0)

  never_held : (s : StreamValue) → IsHeld places s → (rs : List (Option Reply))
      → AsksForNone (control_at image.profile image.program (own_steps image s rs))
  never_held s h [] = asks_held s h
  never_held s h (r ∷ rs) = never_held (own_step image s r) (held_next s r h) rs

  pub are_settled : AreSettled image places
  are_settled s stands =
      let both = both_true (is_settled_place places s.ssw.pc) ((target_at s.targets 0).pc == no_handler) stands in
      never_held s (inr (both.0, eqb-true (target_at s.targets 0).pc no_handler both.1))

pub settled_by : (image : ImageValue) (places : List Bool) (profile : Profile) (program : List ℕ)
    → profile ≡ image.profile → program ≡ image.program → AreCalm profile program places → AreSettled image places
settled_by image places profile program same_profile same_program calm =
    are_settled image places
    (subst (λ p. AreCalm p image.program places) same_profile
    (subst (λ ps. AreCalm profile ps places) same_program calm))

-- no place is settled past the end
pub calm_places : (profile : Profile) (program : List ℕ) (places : List Bool)
    → ((k : ℕ) → k < length places → IsTrue (is_settled_place places k)
    → IsCalmAt places k (fetch_word profile (slice_get program k)))
    → AreCalm profile program places
calm_places profile program places each k at = by_place (cases_lt k (length places)) where
  by_place : (k < length places) ⊎ (length places ≤ k) → IsCalmAt places k (fetch_word profile (slice_get program k))
  by_place (inl within) = each k within at
  by_place (inr past) =
      let none : false ≡ true = sym (get_or_past places k false past) ∙ at in
      cc

-- where no place is settled
pub none_settled : (image : ImageValue) → AreSettled image []
none_settled image s stands = cc

-- A stream that does not run never asks, either.
never_rests : (image : ImageValue) (s : StreamValue) → is_running s ≡ false → (rs : List (Option Reply))
    → AsksForNone (control_at image.profile image.program (own_steps image s rs))
never_rests image s none [] = asks_rest image s none
never_rests image s none (r ∷ rs) =
    subst (λ x. AsksForNone (control_at image.profile image.program (own_steps image x rs)))
    (sym (own_rest image s r none)) (never_rests image s none rs)

pub never_settled : (image : ImageValue) (places : List Bool) → AreSettled image places → (s : StreamValue)
    → is_settled places s ≡ true → NeverAsks image s
never_settled image places settled s is = by (is_running s) refl is where
  by : (b : Bool) → is_running s ≡ b → (not b || stands_settled places s) ≡ true → NeverAsks image s
  by true runs e = settled s e
  by false none e = never_rests image s none

-- so where others stand settled, an end is one beside which nobody asks
pub settled_ends : (image : ImageValue) (places : List Bool) (w : World) (t : Step) → AreSettled image places
    → IsSettledEnding places image w t → IsEndingStep image w t
settled_ends image places w t settled l = record {
  processor = l.processor;
  there = l.there;
  ending = l.ending;
  others = λ k apart. never_settled image places settled (stream_at l.processor.streams k) (l.others k apart);
}
