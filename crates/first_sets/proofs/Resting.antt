-- What a step leaves of other streams that executes an instruction and asks for no stream; and a step of a stream that does
-- not run, which does nothing.
use Rattle.std.proofs.Common.{◌≡◌, ◌≢◌, ℕ, ◌<◌, ◌≤◌, ◌⊎◌, inl, inr, true, false, refl, sym, ap, ◌∙◌, arith}
use Rattle.std.proofs.Common.{Option, Some, None, List, length, set, slice_get, unwrap_or}
use Rattle.std.specs.Prelude.{not}
use Rattle.std.proofs.lemmas.Bool.{cases_lt}
use Rattle.std.proofs.lemmas.List.{length-set, get_or-set_same, get_or-set_other, get_or_past, set-get_or}
use Rattle.std.proofs.lemmas.Option.{slice_get-get_or, slice_get_past, get_or_from_slice_get, unwrap_or-slice_get}
use Rattle.tag_memory.specs.declared.requests.Request.{Request}
use Rattle.tag_memory.specs.declared.requests.Reply.{Reply}
use Rattle.image_file.specs.ImageValue.{ImageValue}
use Rattle.stream_core.specs.Streams.{StreamValue, idle}
use Rattle.stream_core.specs.StreamRow.{fetch_if, fetch_of, control_from, control_at, row_from, stream_row}
use Rattle.stream_core.specs.declared.steps.Status.{Status}
use Rattle.stream_core.specs.declared.steps.Status.TheVariants.{Idle, Running, Stopped}
use Rattle.stream_core.specs.declared.steps.Outcome.{Outcome}
use Rattle.stream_core.specs.declared.steps.Fetch.{Fetch}
use Rattle.stream_core.specs.declared.steps.Fetch.TheVariants as fetch
use Rattle.processor.specs.Processors.{ProcessorValue, stream_at}
use Rattle.processor.specs.Records.{is_running, is_running_status}
use Rattle.processor.specs.Row.{step_fetch_of, next_of, request, memory_reply}
use Rattle.processor.specs.World.{World, after}
use Rattle.processor.specs.declared.steps.Step.{Step}
use Rattle.processor.proofs.Begun.{rests, row_begun, request_begun}
use Rattle.processor.proofs.Histories.{after-known, after-absent}
use Rattle.waiting.specs.Running.{streams_at, runs_at, runs_in}
use Rattle.waiting.proofs.Needs.{skips, skips-at, rests-begun}
use Rattle.local_steps.specs.NeverAsking.{left_by, own_step}
use Rattle.local_steps.specs.SettledEndings.{stream_in}
use Rattle.local_steps.proofs.Commuting.{there_same}
use Rattle.local_steps.proofs.Orders.{same_or_other}
use Rattle.commuting_requests.specs.RequestSteps.{IsRequestStep}
use Rattle.commuting_requests.proofs.Leaving.{into}
use Rattle.commuting_requests.proofs.Swapping.{moved}

rest_alone : (f : Fetch) → rests f ≡ true → f ≡ fetch.Rest
rest_alone fetch.Rest e = refl
rest_alone (fetch.Trap k) e = cc
rest_alone (fetch.Instruction i) e = cc

rested_at : (image : ImageValue) (w : World) (t : Step) (o : Option ProcessorValue) → slice_get w.processors t.p ≡ o
    → runs_at (slice_get (streams_at o) t.s) ≡ false → after image w t ≡ w
rested_at image w t None there rests_now = after-absent image w t there
rested_at image w t (Some proc) there rests_now =
    let skipped : skips (next_of image proc t.s) ≡ true = skips-at image (Some proc) t.s ∙ ap not rests_now in
    let begins : step_fetch_of image proc t.s ≡ fetch.Rest =
    rest_alone (step_fetch_of image proc t.s) (rests-begun image proc t.s ∙ skipped) in
    let asks : request image proc t.s ≡ None = request_begun image proc t.s fetch.Rest begins in
    let put : ProcessorValue × Outcome → World =
    λ e. record { processors = set w.processors t.p e.0; memory = w.memory } in
    let list : List ProcessorValue → World = λ ps. record { processors = ps; memory = w.memory } in
    after-known image w t proc None there asks
    ∙ ap put (sym (row_begun image proc t.s None fetch.Rest begins))
    ∙ ap (λ x. list (set w.processors t.p x)) (sym (get_or_from_slice_get w.processors t.p proc proc there))
    ∙ ap list (set-get_or w.processors t.p proc)

pub rested : (image : ImageValue) (w : World) (t : Step) → runs_in w t ≡ false → after image w t ≡ w
rested image w t rests_now = rested_at image w t (slice_get w.processors t.p) refl rests_now

pub other_processor : (xs : List ProcessorValue) (k n : ℕ) (x : ProcessorValue) → n ≢ k → slice_get (set xs k x) n ≡ slice_get xs n
other_processor xs k n x apart = elim (cases_lt n (length xs)) [
  | inl within ↦
      slice_get-get_or (set xs k x) n x (omega (arith, within, length-set xs k x))
      ∙ ap Some (get_or-set_other xs k n x x apart)
      ∙ sym (slice_get-get_or xs n x within)
  | inr past ↦
      slice_get_past (set xs k x) n (omega (arith, past, length-set xs k x)) ∙ sym (slice_get_past xs n past)
]

-- Of a world and its next.

runs_alone : (o : Option StreamValue) → runs_at o ≡ is_running (unwrap_or o idle)
runs_alone None = refl
runs_alone (Some s) = refl

-- whether a step's stream runs
pub runs_there : (w : World) (t : Step) → runs_in w t ≡ is_running (stream_in w t.p t.s)
runs_there w t =
    let o = slice_get (streams_at (slice_get w.processors t.p)) t.s in
    runs_alone o
    ∙ ap is_running (unwrap_or-slice_get (streams_at (slice_get w.processors t.p)) t.s idle)

module _ (image : ImageValue) (w : World) (t : Step) (s : StreamValue) (q : Option Request)
    (f : IsRequestStep image w t s q) where
  abbrev pub reply : Option Reply
  reply = (memory_reply w.memory q).1

  abbrev to : ProcessorValue
  to = into image t.s s f.request.insn reply f.processor

  pub here : stream_in w t.p t.s ≡ s
  here = ap (λ o. stream_at (streams_at o) t.s) f.there ∙ f.is

  running : is_running s ≡ true
  unfolding fetch_of
  running = by s.status f.request.found where
    by : (st : Status) → fetch_if image.profile st image.program s.ssw.pc ≡ fetch.Instruction f.request.insn
        → is_running_status st ≡ true
    by Idle e = cc
    by Running e = refl
    by (Stopped k) e = cc

  pub runs : runs_in w t ≡ true
  unfolding here running
  runs = runs_there w t ∙ ap is_running here ∙ running

  there_within : t.s < length f.processor.streams
  unfolding running
  there_within = by (cases_lt t.s (length f.processor.streams)) where
    by : (t.s < length f.processor.streams) ⊎ (length f.processor.streams ≤ t.s) → t.s < length f.processor.streams
    by (inl within) = within
    by (inr past) =
        let none : false ≡ true =
        ap is_running (sym (get_or_past f.processor.streams t.s idle past) ∙ f.is) ∙ running in
        cc

  -- its own stream
  pub own : stream_in (after image w t) t.p t.s ≡ own_step image s reply
  unfolding there_within control_at stream_row
  own =
      ap (λ (v : World). stream_in v t.p t.s) (moved image w t s q f)
      ∙ ap (λ o. stream_at (streams_at o) t.s) (there_same w.processors t.p f.processor to f.there)
      ∙ get_or-set_same f.processor.streams t.s _ idle there_within
      ∙ ap (λ g. left_by (control_from s g) (row_from image.retry_limit s 0 reply g)) (sym f.request.found)

  -- other streams
  near : (u : Step) → u.p ≡ t.p → u.s ≢ t.s → stream_in (after image w t) u.p u.s ≡ stream_in w u.p u.s
  near u same two =
      ap (λ (v : World). stream_in v u.p u.s) (moved image w t s q f)
      ∙ ap (λ p. stream_at (streams_at (slice_get (set w.processors t.p to) p)) u.s) same
      ∙ ap (λ o. stream_at (streams_at o) u.s) (there_same w.processors t.p f.processor to f.there)
      ∙ get_or-set_other f.processor.streams t.s u.s _ idle two
      ∙ ap (λ o. stream_at (streams_at o) u.s) (sym f.there)
      ∙ ap (λ p. stream_at (streams_at (slice_get w.processors p)) u.s) (sym same)

  far : (u : Step) → u.p ≢ t.p → stream_in (after image w t) u.p u.s ≡ stream_in w u.p u.s
  far u away =
      ap (λ (v : World). stream_in v u.p u.s) (moved image w t s q f)
      ∙ ap (λ o. stream_at (streams_at o) u.s) (other_processor w.processors t.p u.p to away)

  by_place : (u : Step) → u ≢ t → (u.p ≡ t.p) ⊎ (u.p ≢ t.p) → (u.s ≡ t.s) ⊎ (u.s ≢ t.s)
      → stream_in (after image w t) u.p u.s ≡ stream_in w u.p u.s
  by_place u apart (inl same) (inl one) = absurd (apart (λ i. record { p = same i; s = one i }))
  by_place u apart (inl same) (inr two) = near u same two
  by_place u apart (inr away) e = far u away

  pub others : (u : Step) → u ≢ t → stream_in (after image w t) u.p u.s ≡ stream_in w u.p u.s
  others u apart = by_place u apart (same_or_other u.p t.p) (same_or_other u.s t.s)

  -- a stream that does not run does nothing behind it
  pub rests_behind : (u : Step) → u ≢ t → runs_in w u ≡ false
      → after image (after image w t) u ≡ after image w t
  rests_behind u apart none =
      rested image (after image w t) u
      (runs_there (after image w t) u ∙ ap is_running (others u apart) ∙ sym (runs_there w u) ∙ none)
