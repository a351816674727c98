-- What a step that ends its stream begins with, and what it leaves.
use Rattle.std.proofs.Common.{◌≡◌, ◌≢◌, ℕ, ◌<◌, ◌≤◌, ◌⊎◌, inl, inr, false, refl, sym, ap, ◌∙◌, arith}
use Rattle.std.proofs.Common.{if◌then◌else◌, List, length, set, Option, Some, None, slice_get, unwrap_or}
use Rattle.std.proofs.lemmas.Bool.{cases_lt}
use Rattle.std.proofs.lemmas.List.{length-set, set-get_or, get_or-set_other, set_comm}
use Rattle.std.proofs.lemmas.Option.{unwrap_or-slice_get, slice_get-get_or, slice_get_past}
use Rattle.insn_word.specs.declared.insn.Insn.{Insn}
use Rattle.insn_word.specs.declared.profiles.Profile.{Profile}
use Rattle.tag_memory.specs.declared.requests.Request.{Request}
use Rattle.tag_memory.specs.Storage.{TaggedMemory}
use Rattle.image_file.specs.ImageValue.{ImageValue}
use Rattle.stream_core.specs.Streams.{StreamValue, idle}
use Rattle.stream_core.specs.Effects.{request_of, after_instruction}
use Rattle.stream_core.specs.StreamRow.{fetch_of, fetch_if, plan_from, plan_of, control_of, control_from, control_at, row_asking}
use Rattle.stream_core.specs.declared.traps.TrapKind.TheVariants as kind
use Rattle.stream_core.specs.declared.steps.Status.{Status}
use Rattle.stream_core.specs.declared.steps.Status.TheVariants.{Idle, Running, Stopped}
use Rattle.stream_core.specs.declared.steps.Outcome.{Outcome}
use Rattle.stream_core.specs.declared.steps.Outcome.TheVariants as outcome
use Rattle.stream_core.specs.declared.steps.Fetch.{Fetch}
use Rattle.stream_core.specs.declared.steps.Fetch.TheVariants as fetch
use Rattle.stream_core.specs.declared.steps.Plan.TheVariants as plan
use Rattle.stream_core.specs.declared.steps.Control.{Control}
use Rattle.stream_core.specs.declared.steps.Control.TheVariants as asks
use Rattle.processor.specs.Processors.{ProcessorValue, stream_at}
use Rattle.processor.specs.Records.{is_running, is_running_status}
use Rattle.processor.specs.Row.{lacks_stream, image_fetch, step_fetch_from, step_fetch, step_fetch_at, step_fetch_of}
use Rattle.processor.specs.Row.{grant_of, with_stream, after_control, after_control_if_done, memory_reply, row_over_memory}
use Rattle.processor.specs.World.{World, after}
use Rattle.processor.specs.declared.steps.Step.{Step}
use Rattle.processor.proofs.Histories.{after-absent}
use Rattle.processor.proofs.Begun.{rests, awake, row_over_memory_begun}
use Rattle.local_steps.specs.EndingSteps.{IsEnding, IsEndingIn}
use Rattle.local_steps.proofs.Alone.{asks_nothing}
use Rattle.local_steps.proofs.Commuting.{there_other, put, after_there}

-- A stream that does not run.

pub rest_status : (p : Profile) (st : Status) (program : List ℕ) (pc : ℕ) → is_running_status st ≡ false
    → fetch_if p st program pc ≡ fetch.Rest
rest_status p Idle program pc e = refl
rest_status p Running program pc e = cc
rest_status p (Stopped k) program pc e = refl

rest_at : (image : ImageValue) (proc : ProcessorValue) (o : Option StreamValue) (s : StreamValue) → unwrap_or o idle ≡ s
    → is_running s ≡ false → step_fetch_at image proc o ≡ fetch.Rest
unfolding step_fetch fetch_of
rest_at image proc None s e none = refl
rest_at image proc (Some x) s e none =
    ap (step_fetch_from proc x)
    (rest_status image.profile x.status image.program x.ssw.pc (ap is_running e ∙ none))

pub resting : (image : ImageValue) (proc : ProcessorValue) (k : ℕ) → is_running (stream_at proc.streams k) ≡ false
    → step_fetch_of image proc k ≡ fetch.Rest
unfolding step_fetch_of
resting image proc k none =
    rest_at image proc (slice_get proc.streams k) (stream_at proc.streams k)
    (unwrap_or-slice_get proc.streams k idle) none

pub resting_step : (image : ImageValue) (proc : ProcessorValue) (k : ℕ) (m : TaggedMemory)
    → is_running (stream_at proc.streams k) ≡ false → row_over_memory image proc k m ≡ ((proc, outcome.Skipped), m)
resting_step image proc k m none =
    sym (row_over_memory_begun image proc k m m fetch.Rest None (resting image proc k none) refl)

pub set_itself : {X : Type 0} (xs : List X) (p : ℕ) (x : X) → slice_get xs p ≡ Some x → set xs p x ≡ xs
set_itself xs p x got =
    ap (set xs p) (sym (ap (λ o. unwrap_or o x) got) ∙ unwrap_or-slice_get xs p x) ∙ set-get_or xs p x

pub after_resting : (image : ImageValue) (w : World) (u : Step) (proc : ProcessorValue)
    → slice_get w.processors u.p ≡ Some proc → is_running (stream_at proc.streams u.s) ≡ false → after image w u ≡ w
after_resting image w u proc there none =
    after_there image w u proc there
    ∙ ap (put w u.p)
    (sym (row_over_memory_begun image proc u.s w.memory w.memory fetch.Rest None (resting image proc u.s none) refl))
    ∙ ap (λ ps. record { processors = ps; memory = w.memory }) (set_itself w.processors u.p proc there)

-- A stream that ends.

pub record IsEnd (image : ImageValue) (s : StreamValue) (i : Insn) : Type 0 where
  pub found : image_fetch image s ≡ fetch.Instruction i
  pub unasked : request_of s i ≡ None
  pub ends : IsEnding (control_of s i)

end_from : (image : ImageValue) (s : StreamValue) (f : Fetch) → image_fetch image s ≡ f → plan_from s f ≡ plan.Local
    → IsEnding (control_from s f) → (i : Insn) × IsEnd image s i
end_from image s fetch.Rest found e c = cc
end_from image s (fetch.Trap k) found e c = cc
end_from image s (fetch.Instruction i) found e c =
    (i, record { found = found; unasked = asks_nothing (request_of s i) e; ends = c })

pub end_of : (image : ImageValue) (s : StreamValue) → IsEndingIn image s → (i : Insn) × IsEnd image s i
unfolding plan_of control_at
end_of image s l = end_from image s (image_fetch image s) refl l.unasked l.ends

lacks_none : (proc : ProcessorValue) (c : Control) → IsEnding c → lacks_stream proc c ≡ false
lacks_none proc (asks.Create child) none = absurd none
lacks_none proc c e = refl

idle_finds : (image : ImageValue) (s : StreamValue) (i : Insn) → idle ≡ s → image_fetch image s ≡ fetch.Instruction i → ⊥
unfolding fetch_of
idle_finds image s i e found =
    let none : fetch.Rest ≡ fetch.Instruction i = ap (image_fetch image) e ∙ found in
    cc

pub begins : (image : ImageValue) (proc : ProcessorValue) (n : ℕ) (i : Insn)
    → IsEnd image (stream_at proc.streams n) i → step_fetch_of image proc n ≡ fetch.Instruction i
unfolding step_fetch_of step_fetch
begins image proc n i l =
    begins_at (slice_get proc.streams n) (unwrap_or-slice_get proc.streams n idle)
  where
    s : StreamValue
    s = stream_at proc.streams n

    begins_at : (o : Option StreamValue) → unwrap_or o idle ≡ s
        → step_fetch_at image proc o ≡ fetch.Instruction i
    begins_at None e = absurd (idle_finds image s i e l.found)
    begins_at (Some x) e =
        ap (step_fetch image proc) e
        ∙ ap (step_fetch_from proc s) l.found
        ∙ ap (λ b. if b then fetch.Trap kind.Create else fetch.Instruction i)
        (lacks_none proc (control_of s i) l.ends)

-- it is there
pub there_ending : (image : ImageValue) (proc : ProcessorValue) (n : ℕ) → IsEndingIn image (stream_at proc.streams n)
    → n < length proc.streams
there_ending image proc n l =
    let found = end_of image (stream_at proc.streams n) l in
    (awake image proc n (ap rests (begins image proc n found.0 found.1))).0

-- the processor after such a step
abbrev pub ended : ImageValue → ProcessorValue → ℕ → Insn → ProcessorValue
ended image proc n i =
    let s = stream_at proc.streams n in
    let c = control_of s i in
    let g = grant_of image proc c in
    after_control (with_stream proc n (after_instruction s i 0 g)) n g c

pub end_over_memory : (image : ImageValue) (proc : ProcessorValue) (n : ℕ) (m : TaggedMemory) (i : Insn)
    → IsEnd image (stream_at proc.streams n) i → row_over_memory image proc n m ≡ ((ended image proc n i, outcome.Done), m)
end_over_memory image proc n m i l =
    let s = stream_at proc.streams n in
    let c = control_of s i in
    let g = grant_of image proc c in
    sym (row_over_memory_begun image proc n m m (fetch.Instruction i) None (begins image proc n i l)
    (ap (memory_reply m) (sym l.unasked)))
    ∙ ap
    (λ (q : Option Request). (let e = row_asking image.retry_limit s i g None q in
    ((after_control_if_done (with_stream proc n e.0) n g c e.1, e.1), m)))
    l.unasked

pub others_kept : (proc : ProcessorValue) (n k g : ℕ) (x : StreamValue) (c : Control) → IsEnding c → k ≢ n
    → stream_at (after_control (with_stream proc n x) n g c).streams k ≡ stream_at proc.streams k
others_kept proc n k g x asks.Plain none apart = absurd none
others_kept proc n k g x (asks.Reserve m) none apart = absurd none
others_kept proc n k g x (asks.Create child) none apart = absurd none
others_kept proc n k g x asks.Quit e apart =
    get_or-set_other (set proc.streams n x) n k idle idle apart ∙ get_or-set_other proc.streams n k x idle apart
others_kept proc n k g x asks.QuitKeep e apart =
    get_or-set_other (set proc.streams n x) n k idle idle apart ∙ get_or-set_other proc.streams n k x idle apart

-- A step that takes its processor to another state, whatever the memory holds, and leaves the memory.
module _ (image : ImageValue) (t : Step) (proc to : ProcessorValue)
    (leaves : (m : TaggedMemory) → row_over_memory image proc t.s m ≡ ((to, outcome.Done), m)) where
  abbrev pub with_to : World → World
  with_to w = record { processors = set w.processors t.p to; memory = w.memory }

  pub after_to : (w : World) → slice_get w.processors t.p ≡ Some proc → after image w t ≡ with_to w
  after_to w there = after_there image w t proc there ∙ ap (put w t.p) (leaves w.memory)

  -- it commutes with a step of another processor
  pub swap_at : (w : World) (u : Step) → slice_get w.processors t.p ≡ Some proc → u.p ≢ t.p → (o : Option ProcessorValue)
      → slice_get w.processors u.p ≡ o → after image (after image w t) u ≡ after image (after image w u) t
  swap_at w u there apart None none =
      ap (λ v. after image v u) (after_to w there)
      ∙ after-absent image (with_to w) u (none_other none)
      ∙ sym (after_to w there)
      ∙ sym (ap (λ v. after image v t) (after-absent image w u none))
    where
      none_other : slice_get w.processors u.p ≡ None → slice_get (set w.processors t.p to) u.p ≡ None
      none_other e = by_place (cases_lt u.p (length w.processors)) where
        by_place : (u.p < length w.processors) ⊎ (length w.processors ≤ u.p)
            → slice_get (set w.processors t.p to) u.p ≡ None
        by_place (inl within) = absurd (some_none (sym (slice_get-get_or w.processors u.p proc within) ∙ e)) where
          some_none : {y : ProcessorValue} → Some y ≡ None → ⊥
          some_none e = cc
        by_place (inr past) =
            slice_get_past (set w.processors t.p to) u.p (omega (arith, past, length-set w.processors t.p to))
  swap_at w u there apart (Some b) there_u =
      ap (λ v. after image v u) (after_to w there)
      ∙ after_there image (with_to w) u b (there_other w.processors t.p u.p b to apart there_u)
      ∙ ap (λ ps. record { processors = ps; memory = e.1 })
      (set_comm w.processors t.p u.p to e.0.0 (λ same. apart (sym same)))
      ∙ sym (after_to far_two (there_other w.processors u.p t.p proc e.0.0 (λ same. apart (sym same)) there))
      ∙ sym (ap (λ v. after image v t) (after_there image w u b there_u))
    where
      e : (ProcessorValue × Outcome) × TaggedMemory
      e = row_over_memory image b u.s w.memory

      far_two : World
      far_two = put w u.p e

-- the processor stays where a step of another one is taken
pub stays_at : (image : ImageValue) (w : World) (u : Step) (p : ℕ) (proc : ProcessorValue)
    → slice_get w.processors p ≡ Some proc → u.p ≢ p → (o : Option ProcessorValue) → slice_get w.processors u.p ≡ o
    → slice_get (after image w u).processors p ≡ Some proc
stays_at image w u p proc there apart None none = ap (λ (v : World). slice_get v.processors p) (after-absent image w u none) ∙ there
stays_at image w u p proc there apart (Some b) there_u =
    ap (λ (v : World). slice_get v.processors p) (after_there image w u b there_u)
    ∙ there_other w.processors u.p p proc (row_over_memory image b u.s w.memory).0.0 (λ same. apart (sym same)) there
