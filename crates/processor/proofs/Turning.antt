-- Whose turn it is.
use Rattle.std.proofs.Common.{ℕ, zero, suc, subst, ◌≡◌, ◌<◌, ◌+◌, List, [], ◌∷◌, ◌++◌, Bool, true, false, cond}
use Rattle.std.proofs.Common.{Option, Some, None, length, refl, sym, ◌∙◌, ap, arith, take, drop, inl, inr}
use Rattle.std.specs.Prelude.{slice_get, ◌||◌, ◌⊎◌}
use Rattle.std.specs.List.{list_any}
use Rattle.std.proofs.lemmas.List.{take_at, take-append-le, length-append}
use Rattle.std.proofs.lemmas.Option.{same_Some, slice_get_within}
use Rattle.insn_word.specs.declared.insn.Insn.{Insn}
use Rattle.insn_word.specs.Reading.{instruction_in}
use Rattle.insn_word.specs.declared.profiles.Profile.{Profile}
use Rattle.tag_memory.specs.declared.requests.Request.{Request}
use Rattle.image_file.specs.ImageValue.{ImageValue}
use Rattle.stream_core.specs.Streams.{StreamValue}
use Rattle.stream_core.specs.StreamRow.{fetch_of, fetch_if, fetch_word, fetch_instruction, control_of}
use Rattle.stream_core.specs.declared.steps.Status.{Status}
use Rattle.stream_core.specs.declared.steps.Status.TheVariants.{Idle, Running, Stopped}
use Rattle.stream_core.specs.declared.steps.Fetch.{Fetch}
use Rattle.stream_core.specs.declared.steps.Fetch.TheVariants as fetch
use Rattle.stream_core.specs.Effects.{request_of}
use Rattle.stream_core.specs.declared.traps.TrapKind.TheVariants as kind
use Rattle.processor.specs.Processors.{ProcessorValue}
use Rattle.processor.specs.Row.{lacks_stream, step_fetch_from, step_fetch}
use Rattle.processor.specs.Row.{next_asking, next_on_fetch, next_at, next_of}
use Rattle.processor.specs.declared.steps.Next.TheVariants as next
use Rattle.processor.proofs.Begun.{rests}
use Rattle.processor.specs.Records.{is_running, is_running_status, any_runs}
use Rattle.processor.specs.OwnSteps.{IsOwn}
use Rattle.processor.specs.Turns.{first_running, running_from, or_first, turn_after, last_of, IsInTurn}
use Rattle.processor.specs.declared.steps.Asked.{Asked}

-- a running stream of a list
pub record Runs (ss : List StreamValue) (n : ℕ) : Type 0 where
  pub stream : StreamValue
  pub there : slice_get ss n ≡ Some stream
  pub running : is_running stream ≡ true

at_cond : (b : Bool) (n s : ℕ) (rest : Option ℕ) → cond b (Some n) rest ≡ Some s
    → ((b ≡ true) × (n ≡ s)) ⊎ (rest ≡ Some s)
at_cond true n s rest h = inl (refl, same_Some _ _ h)
at_cond false n s rest h = inr h

record RunsAt (ss : List StreamValue) (n s : ℕ) : Type 0 where
  place : ℕ
  at : s ≡ n + place
  runs : Runs ss place

first_running-runs : (ss : List StreamValue) (n s : ℕ) → first_running ss n ≡ Some s → RunsAt ss n s
first_running-runs [] n s h = absurd (let e : ⊥ = cc in e)
first_running-runs (x ∷ ss) n s h =
    elim (at_cond (is_running x) n s (first_running ss (n + 1)) h) [
      | inl t ↦
          record {
            place = 0;
            at = omega (arith, t.1);
            runs = record { stream = x; there = refl; running = t.0 };
          }
      | inr k ↦
          let r = first_running-runs ss (n + 1) s k in
          record {
            place = suc r.place;
            at = omega (arith, r.at);
            runs = record { stream = r.runs.stream; there = r.runs.there; running = r.runs.running };
          }
    ]

get-drop : {A : Type 0} (xs : List A) (n k : ℕ) → slice_get (drop n xs) k ≡ slice_get xs (n + k)
get-drop xs zero k = ap (slice_get xs) (omega arith)
get-drop [] (suc n) k = refl
get-drop (x ∷ xs) (suc n) k =
    let next : suc n + k ≡ suc (n + k) = omega arith in get-drop xs n k ∙ ap (slice_get (x ∷ xs)) (sym next)

running_from-runs : (proc : ProcessorValue) (n s : ℕ) → running_from proc n ≡ Some s → Runs proc.streams s
running_from-runs proc n s h =
    let r = first_running-runs (drop n proc.streams) n s h in
    let P : ℕ → Type 0 = λ k. slice_get proc.streams k ≡ Some r.runs.stream in
    record {
      stream = r.runs.stream;
      there = subst P (sym r.at) (sym (get-drop proc.streams n r.place) ∙ r.runs.there);
      running = r.runs.running;
    }

or_some : (proc : ProcessorValue) (s : ℕ) (a b : Option ℕ) → ((x : ℕ) → a ≡ Some x → Runs proc.streams x)
    → ((x : ℕ) → b ≡ Some x → Runs proc.streams x) → or_first a b ≡ Some s → Runs proc.streams s
or_some proc s None b f g h = g s h
or_some proc s (Some x) b f g h = f s h

-- it runs
pub turn-runs : (proc : ProcessorValue) (last : Option ℕ) (s : ℕ) → turn_after proc last ≡ Some s
    → Runs proc.streams s
turn-runs proc None s h = running_from-runs proc 0 s h
turn-runs proc (Some l) s h =
    or_some proc s (running_from proc (l + 1)) (running_from proc 0) (running_from-runs proc (l + 1))
    (running_from-runs proc 0) h

pub turn-within : (proc : ProcessorValue) (last : Option ℕ) (s : ℕ) → turn_after proc last ≡ Some s
    → s < length proc.streams
turn-within proc last s h =
    let r = turn-runs proc last s h in slice_get_within proc.streams s r.stream r.there

none_cond : (b : Bool) (n : ℕ) (rest : Option ℕ) → cond b (Some n) rest ≡ None → (b ≡ false) × (rest ≡ None)
none_cond true n rest h = absurd (let e : ⊥ = cc in e)
none_cond false n rest h = (refl, h)

or_false : (a b : Bool) → a ≡ false → b ≡ false → (a || b) ≡ false
or_false a b p q = rw p q

first_running-none : (ss : List StreamValue) (n : ℕ) → first_running ss n ≡ None → list_any is_running ss ≡ false
first_running-none [] n h = refl
first_running-none (x ∷ ss) n h =
    let t = none_cond (is_running x) n (first_running ss (n + 1)) h in
    or_false (is_running x) _ t.0 (first_running-none ss (n + 1) t.1)

or_none : (a b : Option ℕ) → or_first a b ≡ None → b ≡ None
or_none None b h = h
or_none (Some x) b h = absurd (let e : ⊥ = cc in e)

-- nobody's turn: none runs
pub turn-none : (proc : ProcessorValue) (last : Option ℕ) → turn_after proc last ≡ None → any_runs proc ≡ false
turn-none proc None h = first_running-none proc.streams 0 h
turn-none proc (Some l) h = first_running-none proc.streams 0 (or_none (running_from proc (l + 1)) _ h)

get-push : {A : Type 0} (xs : List A) (y : A) → slice_get (xs ++ y ∷ []) (length xs) ≡ Some y
get-push [] y = refl
get-push (x ∷ xs) y = get-push xs y

get-append : {A : Type 0} (xs ys : List A) (k : ℕ) → k < length xs → slice_get (xs ++ ys) k ≡ slice_get xs k
get-append [] ys k h = absurd (omega arith)
get-append (x ∷ xs) ys zero h = refl
get-append (x ∷ xs) ys (suc k) h = get-append xs ys k (omega arith)

-- a step in turn stays so
pub in-turn-more : (image : ImageValue) (p : ℕ) (ss us : List ℕ) (rs qs : List Asked) (k : ℕ) → k < length ss
    → IsInTurn image p ss rs k → IsInTurn image p (ss ++ us) (rs ++ qs) k
in-turn-more image p ss us rs qs k w h =
    let s = take-append-le k ss us (omega arith) in
    let r = take-append-le h.taken rs qs h.taken_in in
    let P : List ℕ → Type 0 = λ l. IsOwn image p l (take h.taken (rs ++ qs)) h.state in
    let Q : List Asked → Type 0 = λ l. IsOwn image p (take k ss) l h.state in
    record {
      taken = h.taken;
      taken_in = omega (arith, length-append rs qs, h.taken_in);
      state = h.state;
      before = subst P (sym s) (subst Q (sym r) h.before);
      turn = get-append ss us k w ∙ h.turn ∙ ap (λ l. turn_after h.state (last_of l)) (sym s);
    }

-- the last step, where it was taken in turn
pub in-turn-last : (image : ImageValue) (p : ℕ) (ss : List ℕ) (rs qs : List Asked) (st : ProcessorValue) (s : ℕ)
    → IsOwn image p ss rs st → turn_after st (last_of ss) ≡ Some s
    → IsInTurn image p (ss ++ s ∷ []) (rs ++ qs) (length ss)
in-turn-last image p ss rs qs st s own turn =
    let a = take_at ss (s ∷ []) (length ss) refl in
    let b = take_at rs qs (length rs) refl in
    let P : List ℕ → Type 0 = λ l. IsOwn image p l (take (length rs) (rs ++ qs)) st in
    let Q : List Asked → Type 0 = λ l. IsOwn image p ss l st in
    record {
      taken = length rs;
      taken_in = omega (arith, length-append rs qs);
      state = st;
      before = subst P (sym a) (subst Q (sym b) own);
      turn = get-push ss s ∙ sym turn ∙ ap (λ l. turn_after st (last_of l)) (sym a);
    }

-- A stream that runs is not skipped.

rests-instruction : (o : Option Insn) → rests (fetch_instruction o) ≡ false
rests-instruction None = refl
rests-instruction (Some i) = refl

rests-word : (p : Profile) (o : Option ℕ) → rests (fetch_word p o) ≡ false
rests-word p None = refl
rests-word p (Some w) = rests-instruction (instruction_in p w)

rests-running : (p : Profile) (st : Status) (program : List ℕ) (pc : ℕ) → is_running_status st ≡ true
    → rests (fetch_if p st program pc) ≡ false
rests-running p Idle program pc h = absurd (let e : ⊥ = cc in e)
rests-running p Running program pc h = rests-word p (slice_get program pc)
rests-running p (Stopped k) program pc h = absurd (let e : ⊥ = cc in e)

rests-if : (b : Bool) (f g : Fetch) → rests f ≡ false → rests g ≡ false → rests (cond b f g) ≡ false
rests-if true f g h k = h
rests-if false f g h k = k

rests-from : (proc : ProcessorValue) (s : StreamValue) (f : Fetch) → rests f ≡ false
    → rests (step_fetch_from proc s f) ≡ false
rests-from proc s fetch.Rest h = absurd (let e : ⊥ = cc in e)
rests-from proc s (fetch.Trap k) h = refl
rests-from proc s (fetch.Instruction i) h =
    rests-if (lacks_stream proc (control_of s i)) (fetch.Trap kind.Create) (fetch.Instruction i) refl refl

asking-skip : (o : Option Request) → next_asking o ≡ next.Skip → ⊥
asking-skip None h = let e : ⊥ = cc in e
asking-skip (Some q) h = let e : ⊥ = cc in e

fetch-skip : (s : StreamValue) (f : Fetch) → rests f ≡ false → next_on_fetch s f ≡ next.Skip → ⊥
fetch-skip s fetch.Rest h k = let e : ⊥ = cc in e
fetch-skip s (fetch.Trap t) h k = let e : ⊥ = cc in e
fetch-skip s (fetch.Instruction i) h k = asking-skip (request_of s i) k

seen-skip : (image : ImageValue) (proc : ProcessorValue) (s : StreamValue) → is_running s ≡ true
    → next_at image proc (Some s) ≡ next.Skip → ⊥
unfolding step_fetch fetch_of
seen-skip image proc s h k =
    fetch-skip s _ (rests-from proc s _ (rests-running _ s.status image.program s.ssw.pc h)) k

-- nor is the one whose turn it is
pub turn-skip : (image : ImageValue) (proc : ProcessorValue) (last : Option ℕ) (s : ℕ)
    → turn_after proc last ≡ Some s → next_of image proc s ≡ next.Skip → ⊥
unfolding next_of
turn-skip image proc last s h k =
    let r = turn-runs proc last s h in
    seen-skip image proc r.stream r.running (sym (ap (next_at image proc) r.there) ∙ k)
