-- The same step of two worlds that are linked.
use Rattle.std.proofs.Common.{◌≡◌, ◌≢◌, ℕ, ◌<◌, ◌≤◌, ◌⊎◌, inl, inr, false, refl, sym, ap, ◌∙◌, arith, subst}
use Rattle.std.proofs.Common.{length, set, Option, Some, None, slice_get}
use Rattle.std.proofs.lemmas.Bool.{cases_lt}
use Rattle.std.proofs.lemmas.List.{length-set, set_comm, set-set, get_or-set_same}
use Rattle.std.proofs.lemmas.Option.{slice_get-get_or, slice_get_past}
use Rattle.tag_memory.specs.Storage.{TaggedMemory}
use Rattle.image_file.specs.ImageValue.{ImageValue}
use Rattle.stream_core.specs.Streams.{StreamValue, idle}
use Rattle.stream_core.specs.StreamRow.{fetch_of, fetch_if}
use Rattle.stream_core.specs.declared.steps.Status.{Status}
use Rattle.stream_core.specs.declared.steps.Status.TheVariants.{Idle, Running, Stopped}
use Rattle.stream_core.specs.declared.steps.Outcome.{Outcome}
use Rattle.stream_core.specs.declared.steps.Outcome.TheVariants as outcome
use Rattle.processor.specs.Processors.{ProcessorValue, is_idle, stream_at}
use Rattle.processor.specs.Records.{is_running, is_running_status}
use Rattle.processor.specs.Row.{image_fetch, with_stream, row_over_memory}
use Rattle.processor.specs.World.{World, world_step, after}
use Rattle.processor.specs.declared.steps.Step.{Step}
use Rattle.processor.proofs.Histories.{after-absent}
use Rattle.processor.proofs.World.{world_step-absent}
use Rattle.local_steps.proofs.Commuting.{there_same, there_other, put, step_there}
use Rattle.local_steps.proofs.Ended.{resting_step}
use Rattle.local_steps.proofs.Orders.{same_or_other}
use Rattle.program_flow.specs.Agreeing.{StreamsAgree, TellsFlow}
use Rattle.same_futures.specs.Links.{HasOtherStream, IsLinked, TellsHandlers, KeepsLink}
use Rattle.same_futures.proofs.Own.{Told, Close, own_close, beside_close}

-- Steps that are close leave one world or two that are linked.
module _ (image : ImageValue) (named : ℕ → Type 0) (live asked : ℕ → ℕ → Type 0) (w : World) (p k n : ℕ)
    (proc to : ProcessorValue) (there : slice_get w.processors p ≡ Some proc) where
  abbrev other : World
  other = record { processors = set w.processors p to; memory = w.memory }

  abbrev t : Step
  t = record { p = p; s = n }

  abbrev e : (ProcessorValue × Outcome) × TaggedMemory
  e = row_over_memory image proc n w.memory

  abbrev z : (ProcessorValue × Outcome) × TaggedMemory
  z = row_over_memory image to n w.memory

  step_one : world_step image w t ≡ (put w p e, e.0.1)
  step_one = step_there image w t proc there

  step_two : world_step image other t ≡ (put w p z, z.0.1)
  step_two =
      step_there image other t to (there_same w.processors p proc to there)
      ∙ ap (λ ps. (record { processors = ps; memory = z.1 }, z.0.1)) (set-set w.processors p to z.0.0)

  pub kept_close : (z.0.1 ≡ e.0.1) × ((z.1 ≡ e.1) × ((z.0.0 ≡ e.0.0) ⊎ HasOtherStream named live asked k e.0.0 z.0.0))
      → KeepsLink image named live asked w other t
  kept_close c = record {
    comes_out =
        ap (λ (v : World × Outcome). v.1) step_two ∙ c.0 ∙ sym (ap (λ (v : World × Outcome). v.1) step_one);
    link = subst (λ v. (v ≡ after image w t) ⊎ IsLinked named live asked (after image w t) v)
        (sym (ap (λ (v : World × Outcome). v.0) step_two))
        (subst (λ v. (put w p z ≡ v) ⊎ IsLinked named live asked v (put w p z))
        (sym (ap (λ (v : World × Outcome). v.0) step_one)) (by c.1.1));
  }
    where
      by : (z.0.0 ≡ e.0.0) ⊎ HasOtherStream named live asked k e.0.0 z.0.0 → (put w p z ≡ put w p e) ⊎ IsLinked named live asked (put w p e) (put w p z)
      by (inl same) = inl (λ j. record { processors = set w.processors p (same j); memory = c.1.0 j })
      by (inr moved) = inr (record {
        p = p;
        k = k;
        from = e.0.0;
        to = z.0.0;
        there = there_same w.processors p proc e.0.0 there;
        moved = moved;
        is = λ j. record { processors = sym (set-set w.processors p e.0.0 z.0.0) j; memory = c.1.0 j };
      })

-- A step of another processor.
module _ (image : ImageValue) (named : ℕ → Type 0) (live asked : ℕ → ℕ → Type 0) (w : World) (p k : ℕ)
    (proc to : ProcessorValue) (there : slice_get w.processors p ≡ Some proc) (moved : HasOtherStream named live asked k proc to)
    (u : Step) (apart : u.p ≢ p) where
  abbrev far : World
  far = record { processors = set w.processors p to; memory = w.memory }

  pub far_kept : (o : Option ProcessorValue) → slice_get w.processors u.p ≡ o → KeepsLink image named live asked w far u
  far_kept None none =
      let none_far : slice_get far.processors u.p ≡ None = none_other none in
      record {
        comes_out =
            ap (λ (v : World × Outcome). v.1) (sym (world_step-absent image far u none_far))
            ∙ ap (λ (v : World × Outcome). v.1) (world_step-absent image w u none);
        link = inr (subst (λ v. IsLinked named live asked v (after image far u)) (sym (after-absent image w u none))
            (subst (λ v. IsLinked named live asked w v) (sym (after-absent image far u none_far))
            (record { p = p; k = k; from = proc; to = to; there = there; moved = moved; is = refl })));
      }
    where
      none_other : slice_get w.processors u.p ≡ None → slice_get (set w.processors p to) u.p ≡ None
      none_other e = by_place (cases_lt u.p (length w.processors)) where
        by_place : (u.p < length w.processors) ⊎ (length w.processors ≤ u.p)
            → slice_get (set w.processors p to) u.p ≡ None
        by_place (inl within) = absurd (some_none (sym (slice_get-get_or w.processors u.p proc within) ∙ e)) where
          some_none : {y : ProcessorValue} → Some y ≡ None → ⊥
          some_none e = cc
        by_place (inr past) =
            slice_get_past (set w.processors p to) u.p (omega (arith, past, length-set w.processors p to))
  far_kept (Some b) there_u =
      let e = row_over_memory image b u.s w.memory in
      let one : world_step image w u ≡ (put w u.p e, e.0.1) = step_there image w u b there_u in
      let two : world_step image far u ≡ (put far u.p e, e.0.1) =
      step_there image far u b (there_other w.processors p u.p b to apart there_u) in
      let linked : IsLinked named live asked (put w u.p e) (put far u.p e) =
      record {
        p = p;
        k = k;
        from = proc;
        to = to;
        there = there_other w.processors u.p p proc e.0.0 (λ same. apart (sym same)) there;
        moved = moved;
        is = ap (λ ps. record { processors = ps; memory = e.1 })
            (set_comm w.processors p u.p to e.0.0 (λ same. apart (sym same)));
      }
      in
      record {
        comes_out = ap (λ (v : World × Outcome). v.1) two ∙ sym (ap (λ (v : World × Outcome). v.1) one);
        link = inr (subst (λ (v : World × Outcome). IsLinked named live asked v.0 (after image far u)) (sym one)
            (subst (λ (v : World × Outcome). IsLinked named live asked (put w u.p e) v.0) (sym two) linked));
      }

-- A step of the stream itself that does not run.
pub rests_status : (st : Status) → (st ≡ Running) ⊎ (is_running_status st ≡ false)
rests_status Idle = inr refl
rests_status Running = inl refl
rests_status (Stopped kd) = inr refl

module _ (image : ImageValue) (handled : Type 0) (named : ℕ → Type 0) (live asked : ℕ → ℕ → Type 0)
    (closed : TellsFlow image.profile image.program handled named live asked) where
  pub told_here : (s : StreamValue) → s.status ≡ Running → Told handled live asked s.ssw.pc (image_fetch image s)
  unfolding fetch_of
  told_here s runs =
      subst (Told handled live asked s.ssw.pc)
      (sym (ap (λ st. fetch_if image.profile st image.program s.ssw.pc) runs))
      (closed.registers.each s.ssw.pc, closed.codes.each s.ssw.pc)

  -- a step of the same processor
  module _ (w : World) (told : TellsHandlers handled w) (p k n : ℕ) (proc : ProcessorValue)
      (there : slice_get w.processors p ≡ Some proc) (within : k < length proc.streams)
      (here : is_idle (stream_at proc.streams k) ≡ false) (x : StreamValue)
      (agree : StreamsAgree named live asked (stream_at proc.streams k) x) where
    abbrev s : StreamValue
    s = stream_at proc.streams k

    abbrev px : ProcessorValue
    px = with_stream proc k x

    abbrev AreClose : ℕ → Type 0
    AreClose j =
        Close image handled named live asked proc k within here x agree (row_over_memory image proc j w.memory)
        (row_over_memory image px j w.memory)

    close : (k ≡ n) ⊎ (k ≢ n) → (s.status ≡ Running) ⊎ (is_running s ≡ false) → AreClose n
    close (inr apart) st =
        beside_close image handled named live asked proc k within here x agree n (λ e. apart (sym e)) w.memory
    close (inl same) (inl runs) =
        subst AreClose same
        (own_close image handled named live asked proc k within here x agree runs
        (λ r h. closed.registers.names s.ssw.pc r h) (closed.registers.zero s.ssw.pc)
        (told p k proc there (ap is_running_status runs)) (told_here s runs) w.memory)
    close (inl same) (inr rests) =
        subst AreClose same
        (subst (λ v. Close image handled named live asked proc k within here x agree v (row_over_memory image px k w.memory))
        (sym (resting_step image proc k w.memory rests))
        (subst (λ v. Close image handled named live asked proc k within here x agree ((proc, outcome.Skipped), w.memory) v)
        (sym (resting_step image px k w.memory
        (ap is_running (get_or-set_same proc.streams k x idle within ∙ agree.rest) ∙ rests))) (
          refl,
          (
            refl,
            inr (record {
              within = within;
              awake = here;
              stream = x;
              agrees = agree;
              is = refl;
            }),
          ),
        )))

    pub own_kept : KeepsLink image named live asked w (record { processors = set w.processors p px; memory = w.memory })
        (record { p = p; s = n })
    own_kept = kept_close image named live asked w p k n proc px there (close (same_or_other k n) (rests_status s.status))

  kept_at_place : (w : World) → TellsHandlers handled w → (p k : ℕ) (proc to : ProcessorValue) → slice_get w.processors p ≡ Some proc
      → HasOtherStream named live asked k proc to → (t : Step) → (t.p ≡ p) ⊎ (t.p ≢ p)
      → KeepsLink image named live asked w (record { processors = set w.processors p to; memory = w.memory }) t
  kept_at_place w told p k proc to there m t (inr far) =
      far_kept image named live asked w p k proc to there m t far (slice_get w.processors t.p) refl
  kept_at_place w told p k proc to there m t (inl same) =
      subst (λ (y : ProcessorValue). KeepsLink image named live asked w (record { processors = set w.processors p y; memory = w.memory }) t)
      (sym m.is)
      (subst (λ q. KeepsLink image named live asked w
      (record { processors = set w.processors p (with_stream proc k m.stream); memory = w.memory })
      (record { p = q; s = t.s })) (sym same)
      (own_kept w told p k t.s proc there m.within m.awake m.stream m.agrees))

  pub links_kept : (a b : World) (t : Step) → TellsHandlers handled a → IsLinked named live asked a b
      → KeepsLink image named live asked a b t
  links_kept a b t told l =
      subst (λ v. KeepsLink image named live asked a v t) (sym l.is)
      (kept_at_place a told l.p l.k l.from l.to l.there l.moved t (same_or_other t.p l.p))
