-- Where no word of a program writes t0, no running stream gets a handler.
use Rattle.std.proofs.Common.{◌≡◌, ◌≢◌, ℕ, zero, suc, ◌+◌, ◌*◌, ◌%◌, ◌^◌, ◌<◌, ◌≤◌, ◌==◌, ◌⊎◌, inl, inr, Bool, true, false, refl, sym, ap}
use Rattle.std.proofs.Common.{◌∙◌, subst, if◌then◌else◌, not, nat_lt, List, [], ◌∷◌, map, length, set, replicate, Option, Some, None, slice_get}
use Rattle.std.specs.Prelude.{IsTrue}
use Rattle.std.specs.List.{list_any}
use Rattle.std.proofs.lemmas.Bool.{true≢false, cases_lt, eqb-true, eqb-false, eq-eqb, or_parts, or_right, not-false}
use Rattle.std.proofs.lemmas.List.{get_or-set_same, get_or-set_other, set_past}
use Rattle.insn_word.specs.Reading.{instruction_in}
use Rattle.insn_word.specs.declared.operations.WideOp.TheVariants as wide
use Rattle.insn_word.specs.declared.operations.ControlOp.{ControlOp}
use Rattle.insn_word.specs.declared.operations.ControlOp.TheVariants as control
use Rattle.insn_word.specs.declared.insn.CPart.{CPart}
use Rattle.insn_word.specs.declared.insn.Insn.{Insn}
use Rattle.insn_word.specs.declared.insn.Insn.TheVariants.{Wide, Normal}
use Rattle.tag_memory.specs.declared.requests.Request.{Request}
use Rattle.tag_memory.specs.declared.requests.Reply.{Reply}
use Rattle.tag_memory.specs.declared.requests.Reply.TheVariants as reply
use Rattle.tag_memory.specs.Storage.{TaggedMemory}
use Rattle.image_file.specs.ImageValue.{ImageValue}
use Rattle.stream_core.specs.Registers.{register_at, target_at, with_target}
use Rattle.stream_core.specs.StatusWords.{status_at, status_from}
use Rattle.stream_core.specs.Traps.{trap_number, memory_trap}
use Rattle.stream_core.specs.Streams.{StreamValue, idle, no_handler, cannot_trap, after_trap, after_trap_if}
use Rattle.stream_core.specs.Effects.{request_of, ssw_before_control, control_targets, after_instruction}
use Rattle.stream_core.specs.StreamRow.{fetch_of, fetch_if, fetch_word, fetch_instruction, control_by, control_of, after_blocked_reply, row_asking}
use Rattle.stream_core.specs.declared.status_words.StatusWord.{StatusWord}
use Rattle.stream_core.specs.declared.traps.TrapKind.{TrapKind}
use Rattle.stream_core.specs.declared.traps.TrapKind.TheVariants as kind
use Rattle.stream_core.specs.declared.steps.Status.{Status}
use Rattle.stream_core.specs.declared.steps.Status.TheVariants.{Idle, Running, Stopped}
use Rattle.stream_core.specs.declared.steps.Outcome.{Outcome}
use Rattle.stream_core.specs.declared.steps.Outcome.TheVariants as outcome
use Rattle.stream_core.specs.declared.steps.Fetch.{Fetch}
use Rattle.stream_core.specs.declared.steps.Fetch.TheVariants as fetch
use Rattle.processor.specs.Processors.{ProcessorValue, stream_at, first_stream, opening}
use Rattle.processor.specs.Records.{is_running, is_running_status}
use Rattle.processor.specs.Row.{lacks_stream, image_fetch, step_fetch_from, step_fetch, step_fetch_at, step_fetch_of}
use Rattle.processor.specs.Row.{request_on_fetch, grant_of, with_stream, lowest_idle, after_control, after_control_if_done, row_on_fetch, memory_reply, row_over_memory}
use Rattle.processor.specs.World.{World, start, after, steps, run}
use Rattle.processor.specs.declared.steps.Step.{Step}
use Rattle.processor.proofs.Begun.{row_over_memory_begun}
use Rattle.processor.proofs.Histories.{after-absent, get_set_other}
use Rattle.local_steps.proofs.Commuting.{there_same, put, after_there}
use Rattle.local_steps.proofs.Ended.{resting_step}
use Rattle.local_steps.proofs.Orders.{same_or_other}
use Rattle.same_futures.specs.Links.{TellsHandlers}
use Rattle.same_futures.specs.Handlers.{control_sets_handler, sets_handler, sets_handler_if, word_sets_handler, may_have_handlers, HasNoHandler, NobodyHasHandlers}
use Rattle.same_futures.proofs.Linked.{rests_status}

-- Without a handler a trap stops the stream.

pub cannot : (s : StreamValue) → HasNoHandler s → cannot_trap s ≡ true
cannot s h = or_right s.ssw.in_trap ((target_at s.targets 0).pc == no_handler) (eq-eqb (target_at s.targets 0).pc no_handler h)

-- What instructions leave of t0.

kept_target : (ts : List StatusWord) (t : ℕ) (x : StatusWord) → (t == 0) ≡ false
    → target_at (with_target ts t x) 0 ≡ target_at ts 0
kept_target ts t x e = get_or-set_other ts t 0 x (status_at 0) (λ z. eqb-false t 0 e (sym z))

kept_by_control : (s : StreamValue) (c : CPart) (o : ControlOp) (l : StatusWord) → control_sets_handler c o ≡ false
    → target_at (control_targets s c o l) 0 ≡ target_at s.targets 0
kept_by_control s c control.Call l e = kept_target s.targets c.u (status_at l.pc) e
kept_by_control s c control.Exchange l e = kept_target s.targets c.t l e
kept_by_control s c control.TargetSet l e = kept_target s.targets c.t (status_from (register_at s.registers c.ra)) e
kept_by_control s c o l e = refl

kept_by_instruction : (s : StreamValue) (i : Insn) (value grant : ℕ) → sets_handler i ≡ false
    → target_at (after_instruction s i value grant).targets 0 ≡ target_at s.targets 0
unfolding after_instruction
kept_by_instruction s (Wide look wide.Literal reg imm) value grant e = refl
kept_by_instruction s (Wide look wide.LiteralHigh reg imm) value grant e = refl
kept_by_instruction s (Wide look wide.TargetLiteral reg imm) value grant e = kept_target s.targets reg (status_at imm) e
kept_by_instruction s (Normal look m a c) value grant e = kept_by_control s c c.op (ssw_before_control s a) e

-- The step of a stream without a handler.
module _ (s : StreamValue) (none : HasNoHandler s) where
  trapped_if : (b : Bool) (k : TrapKind) (x : StreamValue) → b ≡ true → HasNoHandler x
      → HasNoHandler (after_trap_if b k x).0
  trapped_if true k x e h = h
  trapped_if false k x e h = cc

  trapped : (k : TrapKind) (a : ℕ) → HasNoHandler (after_trap k a s).0
  trapped k a =
      trapped_if (cannot_trap s) k (record s { xr = trap_number k + a % 2 ^ 48 * 256; retries = 0 }) (cannot s none) none

  either : (b : Bool) (x y : StreamValue × Outcome) → HasNoHandler x.0 → HasNoHandler y.0
      → HasNoHandler (if b then x else y).0
  either true x y first second = first
  either false x y first second = second

  blocked : (limit a : ℕ) → HasNoHandler (after_blocked_reply limit s a).0
  blocked limit a =
      let waits : StreamValue × Outcome = (s, outcome.Blocked) in
      let counts : StreamValue × Outcome = (record s { retries = s.retries + 1 }, outcome.Blocked) in
      let left : StreamValue × Outcome = if s.ssw.mask.blocked then waits else after_trap kind.Blocked a s in
      let more : StreamValue × Outcome = if nat_lt s.retries limit then counts else left in
      either (limit == 0) waits more none
      (either (nat_lt s.retries limit) counts left none
      (either s.ssw.mask.blocked waits (after_trap kind.Blocked a s) none (trapped kind.Blocked a)))

  executed : (i : Insn) (value grant : ℕ) → sets_handler i ≡ false → HasNoHandler (after_instruction s i value grant)
  executed i value grant e = ap (λ (x : StatusWord). x.pc) (kept_by_instruction s i value grant e) ∙ none

  asked : (limit : ℕ) (i : Insn) (grant : ℕ) (r : Option Reply) (q : Option Request) → sets_handler i ≡ false
      → HasNoHandler (row_asking limit s i grant r q).0
  asked limit i grant r None e = executed i 0 grant e
  asked limit i grant None (Some q) e = none
  asked limit i grant (Some (reply.Done value)) (Some q) e = executed i value grant e
  asked limit i grant (Some (reply.Blocked a)) (Some q) e = blocked limit a
  asked limit i grant (Some (reply.Trap k a)) (Some q) e = trapped (memory_trap k) a

-- Processors.

-- a stream has none if it runs
abbrev IsFine : StreamValue → Type 0
IsFine s = is_running s ≡ true → HasNoHandler s

abbrev AreFine : ProcessorValue → Type 0
AreFine proc = (k : ℕ) → IsFine (stream_at proc.streams k)

-- one stream more
placed : (ss : List StreamValue) (n : ℕ) (x : StreamValue) → ((k : ℕ) → IsFine (stream_at ss k)) → IsFine x
    → (k : ℕ) → IsFine (stream_at (set ss n x) k)
placed ss n x all fine k = by (same_or_other k n) (cases_lt n (length ss)) where
  by : (k ≡ n) ⊎ (k ≢ n) → (n < length ss) ⊎ (length ss ≤ n) → IsFine (stream_at (set ss n x) k)
  by (inr apart) place = subst IsFine (sym (get_or-set_other ss n k x idle apart)) (all k)
  by (inl same) (inl within) =
      subst (λ j. IsFine (stream_at (set ss n x) j)) (sym same) (subst IsFine (sym (get_or-set_same ss n x idle within)) fine)
  by (inl same) (inr past) = subst (λ xs. IsFine (stream_at xs k)) (sym (set_past ss n x past)) (all k)

rests_here : IsFine idle
rests_here e = cc

-- the stream that a control operation starts has its creator's t0
controlled : (s : StreamValue) (c : CPart) (o : ControlOp) → HasNoHandler s → (proc : ProcessorValue) (n grant : ℕ)
    → AreFine proc → AreFine (after_control proc n grant (control_by s c o))
controlled s c control.Reserve none proc n grant all = all
controlled s c control.Create none proc n grant all =
    placed proc.streams (lowest_idle proc) _ all (λ runs. none)
controlled s c control.Quit none proc n grant all = placed proc.streams n idle all rests_here
controlled s c control.QuitKeep none proc n grant all = placed proc.streams n idle all rests_here
controlled s c o none proc n grant all = all

asks_fine : (s : StreamValue) (i : Insn) → HasNoHandler s → (proc : ProcessorValue) (n grant : ℕ) → AreFine proc
    → AreFine (after_control proc n grant (control_of s i))
unfolding control_of
asks_fine s (Wide look o reg imm) none proc n grant all = all
asks_fine s (Normal look m a c) none proc n grant all = controlled s c c.op none proc n grant all

done_fine : (s : StreamValue) (i : Insn) → HasNoHandler s → (proc : ProcessorValue) (n grant : ℕ) (o : Outcome)
    → AreFine proc → AreFine (after_control_if_done proc n grant (control_of s i) o)
done_fine s i none proc n grant outcome.Done all = asks_fine s i none proc n grant all
done_fine s i none proc n grant o all = all

-- whether what stands at the pc writes t0
abbrev fetch_sets : Fetch → Bool
fetch_sets fetch.Rest = false
fetch_sets (fetch.Trap k) = false
fetch_sets (fetch.Instruction i) = sets_handler i

module _ (image : ImageValue) (proc : ProcessorValue) (n : ℕ) (all : AreFine proc) where
  abbrev s : StreamValue
  s = stream_at proc.streams n

  row_fine : HasNoHandler s → (r : Option Reply) (f : Fetch) → fetch_sets f ≡ false
      → AreFine (row_on_fetch image proc n r s f).0
  row_fine none r fetch.Rest e = all
  row_fine none r (fetch.Trap k) e = placed proc.streams n _ all (λ runs. trapped s none k 0)
  row_fine none r (fetch.Instruction i) e =
      let grant = grant_of image proc (control_of s i) in
      let x = row_asking image.retry_limit s i grant r (request_of s i) in
      done_fine s i none (with_stream proc n x.0) n grant x.1
      (placed proc.streams n x.0 all (λ runs. asked s none image.retry_limit i grant r (request_of s i) e))

inside : {u v : ProcessorValue} → Some u ≡ Some v → u ≡ v
inside e = cc

-- Where no word of the program writes t0.

none_of : (p : ℕ → Bool) (xs : List ℕ) → list_any p xs ≡ false → (k x : ℕ) → slice_get xs k ≡ Some x → p x ≡ false
none_of p [] e k x got = let none : ⊥ = cc in absurd none
none_of p (y ∷ ys) e zero x got = let same : y ≡ x = cc in ap p (sym same) ∙ (or_parts (p y) (list_any p ys) e).0
none_of p (y ∷ ys) e (suc k) x got = none_of p ys (or_parts (p y) (list_any p ys) e).1 k x got

module _ (image : ImageValue) (without : may_have_handlers image ≡ false) where
  no_entry : image.trap_entry ≡ no_handler
  unfolding may_have_handlers
  no_entry =
      let all = list_any (word_sets_handler image.profile) image.program in
      eqb-true image.trap_entry no_handler
      (not-false (image.trap_entry == no_handler) (or_parts (not (image.trap_entry == no_handler)) all without).0)

  no_word : list_any (word_sets_handler image.profile) image.program ≡ false
  unfolding may_have_handlers
  no_word =
      (or_parts (not (image.trap_entry == no_handler)) (list_any (word_sets_handler image.profile) image.program) without).1

  found : (o : Option Insn) → sets_handler_if o ≡ false → fetch_sets (fetch_instruction o) ≡ false
  found None e = refl
  found (Some i) e = e

  word_fine : (k : ℕ) (o : Option ℕ) → slice_get image.program k ≡ o → fetch_sets (fetch_word image.profile o) ≡ false
  word_fine k None got = refl
  word_fine k (Some word) got =
      found (instruction_in image.profile word) (none_of (word_sets_handler image.profile) image.program no_word k word got)

  status_fine : (st : Status) (pc : ℕ) → fetch_sets (fetch_if image.profile st image.program pc) ≡ false
  status_fine Running pc = word_fine pc (slice_get image.program pc) refl
  status_fine Idle pc = refl
  status_fine (Stopped k) pc = refl

  begun_fine : (proc : ProcessorValue) (s : StreamValue) (f : Fetch) → fetch_sets f ≡ false
      → fetch_sets (step_fetch_from proc s f) ≡ false
  begun_fine proc s fetch.Rest e = refl
  begun_fine proc s (fetch.Trap k) e = refl
  begun_fine proc s (fetch.Instruction i) e = by (lacks_stream proc (control_of s i)) where
    by : (b : Bool) → fetch_sets (if b then fetch.Trap kind.Create else fetch.Instruction i) ≡ false
    by true = refl
    by false = e

  step_fine : (proc : ProcessorValue) (o : Option StreamValue) → fetch_sets (step_fetch_at image proc o) ≡ false
  unfolding step_fetch fetch_of
  step_fine proc None = refl
  step_fine proc (Some s) = begun_fine proc s (image_fetch image s) (status_fine s.status s.ssw.pc)

  begins_fine : (proc : ProcessorValue) (n : ℕ) → fetch_sets (step_fetch_of image proc n) ≡ false
  unfolding step_fetch_of
  begins_fine proc n = step_fine proc (slice_get proc.streams n)

  over_fine : (proc : ProcessorValue) (n : ℕ) (m : TaggedMemory) → AreFine proc
      → AreFine (row_over_memory image proc n m).0.0
  over_fine proc n m all = by (rests_status s.status) where
    s : StreamValue
    s = stream_at proc.streams n

    f : Fetch
    f = step_fetch_of image proc n

    e : TaggedMemory × Option Reply
    e = memory_reply m (request_on_fetch s f)

    by : (s.status ≡ Running) ⊎ (is_running s ≡ false) → AreFine (row_over_memory image proc n m).0.0
    by (inr rests) =
        subst (λ (x : (ProcessorValue × Outcome) × TaggedMemory). AreFine x.0.0) (sym (resting_step image proc n m rests)) all
    by (inl runs) =
        subst (λ (x : (ProcessorValue × Outcome) × TaggedMemory). AreFine x.0.0)
        (row_over_memory_begun image proc n m e.0 f e.1 refl refl)
        (row_fine image proc n all (all n (ap is_running_status runs)) e.1 f (begins_fine proc n))

  pub handlers_kept : (w : World) (t : Step) → NobodyHasHandlers w → NobodyHasHandlers (after image w t)
  handlers_kept w t nobody = by (slice_get w.processors t.p) refl where
    by : (o : Option ProcessorValue) → slice_get w.processors t.p ≡ o → NobodyHasHandlers (after image w t)
    by None none = subst NobodyHasHandlers (sym (after-absent image w t none)) nobody
    by (Some proc) there = subst NobodyHasHandlers (sym (after_there image w t proc there)) put_fine where
      left : ProcessorValue
      left = (row_over_memory image proc t.s w.memory).0.0

      put_fine : NobodyHasHandlers (put w t.p (row_over_memory image proc t.s w.memory))
      put_fine p k q got runs = at_place (same_or_other p t.p) where
        at_place : (p ≡ t.p) ⊎ (p ≢ t.p) → HasNoHandler (stream_at q.streams k)
        at_place (inr apart) = nobody p k q (sym (get_set_other w.processors t.p p left apart) ∙ got) runs
        at_place (inl same) =
            let is : Some left ≡ Some q =
            sym (there_same w.processors t.p proc left there) ∙ ap (slice_get (set w.processors t.p left)) (sym same) ∙ got in
            subst AreFine (inside is)
            (over_fine proc t.s w.memory (λ j goes. nobody t.p j proc there goes)) k runs

  -- At the start.

  idle_streams : (n k : ℕ) → stream_at (replicate n idle) k ≡ idle
  idle_streams zero k = refl
  idle_streams (suc n) zero = refl
  idle_streams (suc n) (suc k) = idle_streams n k

  opening_fine : (entry : ℕ) → AreFine (opening image entry)
  unfolding opening
  opening_fine entry =
      placed (replicate image.slim idle) 0 (first_stream image entry)
      (λ k. subst IsFine (sym (idle_streams image.slim k)) rests_here) (λ runs. no_entry)

  opened_fine : (es : List ℕ) (p : ℕ) (proc : ProcessorValue) → slice_get (map (opening image) es) p ≡ Some proc
      → AreFine proc
  opened_fine [] p proc got = let none : ⊥ = cc in absurd none
  opened_fine (e ∷ es) zero proc got = subst AreFine (inside got) (opening_fine e)
  opened_fine (e ∷ es) (suc p) proc got = opened_fine es p proc got

  start_fine : NobodyHasHandlers (start image)
  unfolding start
  start_fine p k proc got runs = opened_fine image.entries p proc got k runs

  steps_fine : (ts : List Step) (w : World) → NobodyHasHandlers w → NobodyHasHandlers (steps image w ts)
  steps_fine [] w nobody = nobody
  steps_fine (t ∷ ts) w nobody = steps_fine ts (after image w t) (handlers_kept w t nobody)

  pub run_fine : (ts : List Step) → NobodyHasHandlers (run image ts)
  run_fine ts = steps_fine ts (start image) start_fine

-- What is told of traps.

pub told_without : (w : World) → NobodyHasHandlers w → TellsHandlers ⊥ w
told_without w nobody p k proc there runs may =
    true≢false (sym (cannot (stream_at proc.streams k) (nobody p k proc there runs)) ∙ may)

pub told_by : (image : ImageValue) (b : Bool) → may_have_handlers image ≡ b → (ts : List Step)
    → TellsHandlers (IsTrue b) (run image ts)
told_by image true e ts p k proc there runs may = refl
told_by image false e ts p k proc there runs may =
    absurd (told_without (run image ts) (run_fine image e ts) p k proc there runs may)
