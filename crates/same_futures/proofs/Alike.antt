-- Worlds that agree are alike, and end alike.
use Rattle.std.proofs.Common.{◌≡◌, ◌≢◌, ℕ, zero, suc, ◌⊎◌, inl, inr, true, false, refl, sym, ap, ◌∙◌, subst}
use Rattle.std.proofs.Common.{List, [], ◌∷◌, length, set, Option, Some, None, slice_get}
use Rattle.std.proofs.lemmas.List.{length-set, get_or-set_same, get_or-set_other}
use Rattle.tag_memory.specs.Storage.{TaggedMemory}
use Rattle.image_file.specs.ImageValue.{ImageValue}
use Rattle.stream_core.specs.Streams.{StreamValue, idle}
use Rattle.stream_core.specs.declared.steps.Outcome.{Outcome}
use Rattle.stream_core.specs.declared.steps.Outcome.TheVariants as outcome
use Rattle.stream_core.specs.declared.steps.Status.TheVariants.{Running}
use Rattle.processor.specs.Processors.{ProcessorValue, is_idle, stream_at}
use Rattle.processor.specs.Records.{is_running}
use Rattle.processor.specs.Row.{next_of, with_stream, row_over_memory}
use Rattle.processor.specs.World.{World, world_step, counts_at}
use Rattle.processor.specs.declared.steps.Step.{Step}
use Rattle.processor.proofs.Histories.{get_set_other}
use Rattle.waiting.specs.Running.{streams_at, runs_at, runs_in}
use Rattle.waiting.specs.Deciding.{retries_for_ever}
use Rattle.waiting.specs.Stuck.{IsStuck, SomeRuns, IsStandstill}
use Rattle.waiting.proofs.StuckSteps.{stays-if, stays-then, runs_nowhere}
use Rattle.end_kinds.specs.Ends.{stopped_at, is_stopped_status, stopped_in, SomeStopped, IsKindOf}
use Rattle.end_kinds.specs.declared.kinds.EndKind.{EndKind}
use Rattle.end_kinds.specs.declared.kinds.EndKind.TheVariants as kind
use Rattle.local_steps.proofs.Beside.{over_memory_beside}
use Rattle.local_steps.proofs.Commuting.{there_same, there_other, put, step_there}
use Rattle.local_steps.proofs.Ended.{set_itself}
use Rattle.local_steps.proofs.Orders.{same_or_other}
use Rattle.program_flow.specs.Agreeing.{StreamsAgree, TellsFlow}
use Rattle.program_flow.proofs.Agreed.{agree_itself as streams_itself, agree_next as streams_next}
use Rattle.same_futures.specs.Links.{HasOtherStream, IsLinked, TellsHandlers, AreLinked, WorldsAgree}
use Rattle.same_futures.specs.Agreeing.{stream_in, DifferInParts, EndAlike}
use Rattle.same_futures.proofs.Own.{own_next}
use Rattle.same_futures.proofs.Linked.{rests_status, told_here}
use Rattle.same_futures.proofs.Chains.{told_linked, told_agreeing, agree_back}

-- A stream that is not there is seen as an idle one.
runs_or_idle : (ss : List StreamValue) (n : ℕ) → runs_at (slice_get ss n) ≡ is_running (stream_at ss n)
runs_or_idle [] n = refl
runs_or_idle (s ∷ ss) zero = refl
runs_or_idle (s ∷ ss) (suc n) = runs_or_idle ss n

stopped_or_idle : (ss : List StreamValue) (n : ℕ)
    → stopped_at (slice_get ss n) ≡ is_stopped_status (stream_at ss n).status
stopped_or_idle [] n = refl
stopped_or_idle (s ∷ ss) zero = refl
stopped_or_idle (s ∷ ss) (suc n) = stopped_or_idle ss n

-- What is the same.

module _ (named : ℕ → Type 0) (live asked : ℕ → ℕ → Type 0) where
  -- the streams agree
  abbrev Agree : StreamValue → StreamValue → Type 0
  Agree = StreamsAgree named live asked

  agree_moved : (k : ℕ) (from to : ProcessorValue) → HasOtherStream named live asked k from to → (j : ℕ)
      → Agree (stream_at from.streams j) (stream_at to.streams j)
  agree_moved k from to m j =
      subst (λ (q : ProcessorValue). Agree (stream_at from.streams j) (stream_at q.streams j)) (sym m.is)
      (by (same_or_other j k))
    where
      x : StreamValue
      x = m.stream

      by : (j ≡ k) ⊎ (j ≢ k) → Agree (stream_at from.streams j) (stream_at (set from.streams k x) j)
      by (inr apart) =
          subst (Agree (stream_at from.streams j)) (sym (get_or-set_other from.streams k j x idle apart))
          (streams_itself named live asked (stream_at from.streams j))
      by (inl same) =
          subst (λ i. Agree (stream_at from.streams i) (stream_at (set from.streams k x) i)) (sym same)
          (subst (Agree (stream_at from.streams k)) (sym (get_or-set_same from.streams k x idle m.within)) m.agrees)

  -- processors that may be missing
  abbrev AgreeAt : Option ProcessorValue → Option ProcessorValue → Type 0
  AgreeAt a b =
      (counts_at b ≡ counts_at a) × ((j : ℕ) → Agree (stream_at (streams_at a) j) (stream_at (streams_at b) j))

  same_at : (a : Option ProcessorValue) → AgreeAt a a
  same_at a = (refl, λ j. streams_itself named live asked (stream_at (streams_at a) j))

  at_linked : (a b : World) → IsLinked named live asked a b → (p : ℕ)
      → AgreeAt (slice_get a.processors p) (slice_get b.processors p)
  at_linked a b l p =
      subst (λ (w : World). AgreeAt (slice_get a.processors p) (slice_get w.processors p)) (sym l.is)
      (by (same_or_other p l.p))
    where
      counts : counts_at (Some l.to) ≡ counts_at (Some l.from)
      counts = ap (λ q. counts_at (Some q)) l.moved.is

      by : (p ≡ l.p) ⊎ (p ≢ l.p) → AgreeAt (slice_get a.processors p) (slice_get (set a.processors l.p l.to) p)
      by (inr far) =
          subst (AgreeAt (slice_get a.processors p)) (sym (get_set_other a.processors l.p p l.to far))
          (same_at (slice_get a.processors p))
      by (inl same) =
          subst (λ i. AgreeAt (slice_get a.processors i) (slice_get (set a.processors l.p l.to) i)) (sym same)
          (subst (AgreeAt (slice_get a.processors l.p)) (sym (there_same a.processors l.p l.from l.to l.there))
          (subst (λ o. AgreeAt o (Some l.to)) (sym l.there) (counts, agree_moved l.k l.from l.to l.moved)))

  alike_itself : (a : World) → DifferInParts named live asked a a
  alike_itself a =
      record { memory = refl; as_many = refl; counts = λ p. refl; streams = λ p k. streams_itself named live asked (stream_in a p k) }

  alike_linked : (a b : World) → IsLinked named live asked a b → DifferInParts named live asked a b
  alike_linked a b l = record {
    memory = ap (λ (w : World). w.memory) l.is;
    as_many = ap (λ (w : World). length w.processors) l.is ∙ length-set a.processors l.p l.to;
    counts = λ p. (at_linked a b l p).0;
    streams = λ p k. (at_linked a b l p).1 k;
  }

  alike_on : (a b c : World) → DifferInParts named live asked a b → DifferInParts named live asked b c → DifferInParts named live asked a c
  alike_on a b c g h = record {
    memory = h.memory ∙ g.memory;
    as_many = h.as_many ∙ g.as_many;
    counts = λ p. h.counts p ∙ g.counts p;
    streams = λ p k. streams_next named live asked (stream_in a p k) (stream_in b p k) (stream_in c p k) (g.streams p k) (h.streams p k);
  }

  alike_chain : (cs : List World) (a b : World) → AreLinked named live asked a cs b → DifferInParts named live asked a b
  alike_chain [] a b e = subst (DifferInParts named live asked a) (sym e) (alike_itself a)
  alike_chain (c ∷ cs) a b l = alike_on a c b (alike_linked a c l.0) (alike_chain cs c b l.1)

  pub agreeing_alike : (a b : World) → WorldsAgree named live asked a b → DifferInParts named live asked a b
  agreeing_alike a b g = alike_chain g.0 a b g.1

  -- Who runs and who was stopped.

  run_alike : (a b : World) → DifferInParts named live asked a b → (t : Step) → runs_in b t ≡ runs_in a t
  run_alike a b g t =
      runs_or_idle (streams_at (slice_get b.processors t.p)) t.s
      ∙ ap is_running (g.streams t.p t.s).rest
      ∙ sym (runs_or_idle (streams_at (slice_get a.processors t.p)) t.s)

  stopped_alike : (a b : World) → DifferInParts named live asked a b → (t : Step) → stopped_in b t ≡ stopped_in a t
  stopped_alike a b g t =
      stopped_or_idle (streams_at (slice_get b.processors t.p)) t.s
      ∙ ap (λ (s : StreamValue). is_stopped_status s.status) (g.streams t.p t.s).rest
      ∙ sym (stopped_or_idle (streams_at (slice_get a.processors t.p)) t.s)

-- Who is stuck.

-- the step is Blocked and leaves the processor and the memory as they are
abbrev StaysSo : ImageValue → ProcessorValue → ℕ → TaggedMemory → Type 0
StaysSo image proc n m = row_over_memory image proc n m ≡ ((proc, outcome.Blocked), m)

inside : {u v : ProcessorValue} → Some u ≡ Some v → u ≡ v
inside e = cc

stays_over : (image : ImageValue) (w : World) (t : Step) (proc : ProcessorValue) → slice_get w.processors t.p ≡ Some proc
    → world_step image w t ≡ (w, outcome.Blocked) → StaysSo image proc t.s w.memory
stays_over image w t proc there stays =
    let e = row_over_memory image proc t.s w.memory in
    let known : (put w t.p e, e.0.1) ≡ (w, outcome.Blocked) = sym (step_there image w t proc there) ∙ stays in
    let same : e.0.0 ≡ proc =
    inside (sym (there_same w.processors t.p proc e.0.0 there)
    ∙ ap (λ (x : World × Outcome). slice_get x.0.processors t.p) known ∙ there) in
    λ i. ((same i, (known i).1), (known i).0.memory)

over_stays : (image : ImageValue) (w : World) (t : Step) (proc : ProcessorValue) → slice_get w.processors t.p ≡ Some proc
    → StaysSo image proc t.s w.memory → world_step image w t ≡ (w, outcome.Blocked)
over_stays image w t proc there stays =
    step_there image w t proc there
    ∙ ap (λ (e : (ProcessorValue × Outcome) × TaggedMemory). (put w t.p e, e.0.1)) stays
    ∙ ap (λ ps. (record { processors = ps; memory = w.memory }, outcome.Blocked)) (set_itself w.processors t.p proc there)

module _ (image : ImageValue) (handled : Type 0) (named : ℕ → Type 0) (live asked : ℕ → ℕ → Type 0)
    (closed : TellsFlow image.profile image.program handled named live asked) where
  -- the stream itself
  stays_own : (w : World) → TellsHandlers handled w → (p k : ℕ) (proc to : ProcessorValue)
      → slice_get w.processors p ≡ Some proc → HasOtherStream named live asked k proc to
      → is_running (stream_at proc.streams k) ≡ true
      → world_step image w (record { p = p; s = k }) ≡ (w, outcome.Blocked)
      → world_step image (record { processors = set w.processors p to; memory = w.memory }) (record { p = p; s = k })
      ≡ (record { processors = set w.processors p to; memory = w.memory }, outcome.Blocked)
  stays_own w told p k proc to there m goes stays = by (rests_status s.status) where
    s : StreamValue
    s = stream_at proc.streams k

    x : StreamValue
    x = m.stream

    other : World
    other = record { processors = set w.processors p to; memory = w.memory }

    by : (s.status ≡ Running) ⊎ (is_running s ≡ false)
        → world_step image other (record { p = p; s = k }) ≡ (other, outcome.Blocked)
    by (inr rests) = absurd (let e : true ≡ false = sym goes ∙ rests in cc)
    by (inl runs) =
        let was = stays-then image w (record { p = p; s = k }) proc there stays in
        let asks : next_of image to k ≡ next_of image proc k =
        ap (λ q. next_of image q k) m.is
        ∙ own_next image handled named live asked proc k m.within m.awake x m.agrees runs
        (λ r h. closed.registers.names s.ssw.pc r h) (closed.registers.zero s.ssw.pc) (told p k proc there goes)
        (told_here image handled named live asked closed s runs) in
        let held : stream_at to.streams k ≡ x =
        ap (λ (q : ProcessorValue). stream_at q.streams k) m.is ∙ get_or-set_same proc.streams k x idle m.within in
        stays-if image other (record { p = p; s = k }) to was.refused.request was.refused.address
        (there_same w.processors p proc to there) (asks ∙ was.refused.asks) was.refused.blocked
        (ap (λ (y : StreamValue). retries_for_ever image.retry_limit y) (held ∙ m.agrees.rest) ∙ was.keeps)

  stays_linked : (a b : World) (t : Step) → TellsHandlers handled a → IsLinked named live asked a b → IsStuck image a t
      → world_step image b t ≡ (b, outcome.Blocked)
  stays_linked a b t told l stuck =
      subst (λ w. world_step image w t ≡ (w, outcome.Blocked)) (sym l.is) (by (same_or_other t.p l.p))
    where
      other : World
      other = record { processors = set a.processors l.p l.to; memory = a.memory }

      far : t.p ≢ l.p → (o : Option ProcessorValue) → slice_get a.processors t.p ≡ o
          → world_step image other t ≡ (other, outcome.Blocked)
      far apart None none = absurd (runs_nowhere a t none stuck.runs)
      far apart (Some q) there =
          over_stays image other t q (there_other a.processors l.p t.p q l.to apart there)
          (stays_over image a t q there stuck.stays)

      beside : t.s ≢ l.k → slice_get a.processors t.p ≡ Some l.from → slice_get other.processors t.p ≡ Some l.to
          → world_step image other t ≡ (other, outcome.Blocked)
      beside apart there there_to =
          let x = l.moved.stream in
          let up : is_idle x ≡ false = ap is_idle l.moved.agrees.rest ∙ l.moved.awake in
          over_stays image other t l.to there_to
          (subst (λ q. StaysSo image q t.s a.memory) (sym l.moved.is)
          (over_memory_beside l.from l.k t.s x apart l.moved.awake up image a.memory
          ∙ ap (λ (e : (ProcessorValue × Outcome) × TaggedMemory). ((with_stream e.0.0 l.k x, e.0.1), e.1))
          (stays_over image a t l.from there stuck.stays)))

      own : t ≡ record { p = l.p; s = l.k } → world_step image other t ≡ (other, outcome.Blocked)
      own at =
          subst (λ u. world_step image other u ≡ (other, outcome.Blocked)) (sym at)
          (stays_own a told l.p l.k l.from l.to l.there l.moved
          (sym (runs_or_idle l.from.streams l.k)
          ∙ sym (ap (λ o. runs_at (slice_get (streams_at o) l.k)) l.there) ∙ sym (ap (runs_in a) at) ∙ stuck.runs)
          (subst (λ u. world_step image a u ≡ (a, outcome.Blocked)) at stuck.stays))

      by : (t.p ≡ l.p) ⊎ (t.p ≢ l.p) → world_step image other t ≡ (other, outcome.Blocked)
      by (inr apart) = far apart (slice_get a.processors t.p) refl
      by (inl same) = elim (same_or_other t.s l.k) [
        | inl one ↦ own (λ i. record { p = same i; s = one i })
        | inr apart ↦ beside apart (ap (slice_get a.processors) same ∙ l.there)
            (ap (slice_get other.processors) same ∙ there_same a.processors l.p l.from l.to l.there)
      ]

  stuck_chain : (cs : List World) (a b : World) (t : Step) → TellsHandlers handled a → AreLinked named live asked a cs b
      → IsStuck image a t → IsStuck image b t
  stuck_chain [] a b t told e stuck = subst (λ w. IsStuck image w t) (sym e) stuck
  stuck_chain (c ∷ cs) a b t told l stuck =
      stuck_chain cs c b t (told_linked handled named live asked a c told l.0) l.1
      (record {
        runs = run_alike named live asked a c (alike_linked named live asked a c l.0) t ∙ stuck.runs;
        stays = stays_linked a c t told l.0 stuck;
      })

  -- Kinds of ends.

  module _ (a b : World) (told : TellsHandlers handled a) (g : WorldsAgree named live asked a b) where
    some_run : SomeRuns a → SomeRuns b
    some_run h = (h.0, run_alike named live asked a b (agreeing_alike named live asked a b g) h.0 ∙ h.1)

    some_stopped : SomeStopped a → SomeStopped b
    some_stopped h = (h.0, stopped_alike named live asked a b (agreeing_alike named live asked a b g) h.0 ∙ h.1)

    stuck_on : (t : Step) → IsStuck image a t → IsStuck image b t
    stuck_on t stuck = stuck_chain g.0 a b t told g.1 stuck

    still_on : IsStandstill image a → IsStandstill image b
    still_on h = record {
      some = some_run h.some;
      each = λ t runs. stuck_on t (h.each t (sym (run_alike named live asked a b (agreeing_alike named live asked a b g) t) ∙ runs));
    }

  module _ (a b : World) (told : TellsHandlers handled a) (g : WorldsAgree named live asked a b) where
    h : WorldsAgree named live asked b a
    h = agree_back named live asked a b g

    told_b : TellsHandlers handled b
    told_b = told_agreeing handled named live asked a b told g

    kind_on : (kind : EndKind) → IsKindOf image a kind → IsKindOf image b kind
    kind_on kind.Finished e = (λ s. e.0 (some_run b a told_b h s), λ s. e.1 (some_stopped b a told_b h s))
    kind_on kind.Stopped e = (λ s. e.0 (some_run b a told_b h s), some_stopped a b told g e.1)
    kind_on kind.Deadlock e = still_on a b told g e
    kind_on kind.Waiting e = e
    kind_on kind.Spinning e = e
    kind_on kind.Looping e = e
    kind_on kind.OutOfSteps e = (some_run a b told g e.0, λ s. e.1 (still_on b a told_b h s))

  pub agreeing_end_alike : (a b : World) → TellsHandlers handled a → WorldsAgree named live asked a b → EndAlike image a b
  agreeing_end_alike a b told g =
      let back = agree_back named live asked a b g in
      let told_b = told_agreeing handled named live asked a b told g in
      record {
        run = run_alike named live asked a b (agreeing_alike named live asked a b g);
        stopped = stopped_alike named live asked a b (agreeing_alike named live asked a b g);
        stuck = λ t. (stuck_on a b told g t, stuck_on b a told_b back t);
        kinds = λ kind. (kind_on a b told g kind, kind_on b a told_b back kind);
      }
