-- Chains of links: both ways, one after the other, and under each schedule.
use Rattle.std.proofs.Common.{◌≡◌, ◌≢◌, ℕ, ◌⊎◌, inl, inr, true, false, refl, sym, ap, ◌∙◌, arith, subst, List, [], ◌∷◌, set, Some, slice_get}
use Rattle.std.proofs.lemmas.List.{length-set, get_or-set_same, get_or-set_other, set-set, set-get_or}
use Rattle.image_file.specs.ImageValue.{ImageValue}
use Rattle.stream_core.specs.Streams.{StreamValue, idle, cannot_trap}
use Rattle.processor.specs.Processors.{ProcessorValue, is_idle, stream_at}
use Rattle.processor.specs.Records.{is_running}
use Rattle.processor.specs.Row.{with_stream}
use Rattle.processor.specs.World.{World, world_step, after, steps}
use Rattle.processor.specs.declared.steps.Step.{Step}
use Rattle.processor.proofs.Histories.{get_set_other}
use Rattle.local_steps.proofs.Commuting.{there_same}
use Rattle.local_steps.proofs.Ended.{set_itself}
use Rattle.local_steps.proofs.Orders.{same_or_other}
use Rattle.program_flow.specs.Agreeing.{StreamsAgree, TellsFlow}
use Rattle.program_flow.proofs.Agreed.{agree_back as streams_back}
use Rattle.same_futures.specs.Links.{HasOtherStream, IsLinked, TellsHandlers, AreLinked, WorldsAgree}
use Rattle.same_futures.proofs.Linked.{links_kept}

-- a running stream of a linked world may trap where that of the first one may
pub told_linked : (handled : Type 0) (named : ℕ → Type 0) (live asked : ℕ → ℕ → Type 0) (a b : World) → TellsHandlers handled a
    → IsLinked named live asked a b → TellsHandlers handled b
told_linked handled named live asked a b told l p k proc there runs may =
    by_processor (same_or_other p l.p)
  where
    from_b : slice_get (set a.processors l.p l.to) p ≡ Some proc
    from_b = ap (λ (w : World). slice_get w.processors p) (sym l.is) ∙ there

    x : StreamValue
    x = l.moved.stream

    IsFine : StreamValue → Type 0
    IsFine s = is_running s ≡ true → cannot_trap s ≡ false → handled

    in_moved : (j : ℕ) → (j ≡ l.k) ⊎ (j ≢ l.k) → IsFine (stream_at (with_stream l.from l.k x).streams j)
    in_moved j (inl same) =
        subst (λ i. IsFine (stream_at (with_stream l.from l.k x).streams i)) (sym same)
        (subst IsFine (sym (get_or-set_same l.from.streams l.k x idle l.moved.within ∙ l.moved.agrees.rest))
        (told l.p l.k l.from l.there))
    in_moved j (inr apart) =
        subst IsFine (sym (get_or-set_other l.from.streams l.k j x idle apart)) (told l.p j l.from l.there)

    by_processor : (p ≡ l.p) ⊎ (p ≢ l.p) → handled
    by_processor (inr far) = told p k proc (sym (get_set_other a.processors l.p p l.to far) ∙ from_b) runs may
    by_processor (inl same) =
        let got : Some l.to ≡ Some proc =
        sym (there_same a.processors l.p l.from l.to l.there) ∙ ap (slice_get (set a.processors l.p l.to)) (sym same) ∙ from_b in
        let is : proc ≡ with_stream l.from l.k x = sym (inside got) ∙ l.moved.is in
        subst (λ (q : ProcessorValue). IsFine (stream_at q.streams k)) (sym is) (in_moved k (same_or_other k l.k)) runs may
      where
        inside : {u v : ProcessorValue} → Some u ≡ Some v → u ≡ v
        inside e = cc

told_chain : (handled : Type 0) (named : ℕ → Type 0) (live asked : ℕ → ℕ → Type 0) (cs : List World) (a b : World)
    → TellsHandlers handled a → AreLinked named live asked a cs b → TellsHandlers handled b
told_chain handled named live asked [] a b told e = subst (TellsHandlers handled) (sym e) told
told_chain handled named live asked (c ∷ cs) a b told l =
    told_chain handled named live asked cs c b (told_linked handled named live asked a c told l.0) l.1

-- so it is with worlds that agree
pub told_agreeing : (handled : Type 0) (named : ℕ → Type 0) (live asked : ℕ → ℕ → Type 0) (a b : World)
    → TellsHandlers handled a → WorldsAgree named live asked a b → TellsHandlers handled b
told_agreeing handled named live asked a b told g = told_chain handled named live asked g.0 a b told g.1

module _ (named : ℕ → Type 0) (live asked : ℕ → ℕ → Type 0) where
  -- one chain behind another

  chained : (cs : List World) (a b c : World) → AreLinked named live asked a cs b → WorldsAgree named live asked b c
      → WorldsAgree named live asked a c
  chained [] a b c e g = subst (λ w. WorldsAgree named live asked w c) e g
  chained (d ∷ cs) a b c l g = let more = chained cs d b c l.1 g in (d ∷ more.0, (l.0, more.1))

  pub agree_itself : (a : World) → WorldsAgree named live asked a a
  agree_itself a = ([], refl)

  pub agree_next : (a b c : World) → WorldsAgree named live asked a b → WorldsAgree named live asked b c → WorldsAgree named live asked a c
  agree_next a b c g h = chained g.0 a b c g.1 h

  pub agree_link : (a b : World) → IsLinked named live asked a b → WorldsAgree named live asked a b
  agree_link a b l = (b ∷ [], (l, refl))

  -- and back

  moved_back : (k : ℕ) (from to : ProcessorValue) → HasOtherStream named live asked k from to
      → HasOtherStream named live asked k to from
  moved_back k from to m = subst (λ q. HasOtherStream named live asked k q from) (sym m.is) (record {
    within = omega (arith, m.within, length-set from.streams k m.stream);
    awake = ap is_idle (held ∙ m.agrees.rest) ∙ m.awake;
    stream = s;
    agrees = subst (λ (y : StreamValue). StreamsAgree named live asked y s) (sym held)
        (streams_back named live asked s m.stream m.agrees);
    is =
        sym (ap (λ ss. record { streams = ss; scur = from.scur; sres = from.sres })
        (set-set from.streams k m.stream s ∙ set-get_or from.streams k idle));
  })
    where
      s : StreamValue
      s = stream_at from.streams k

      held : stream_at (with_stream from k m.stream).streams k ≡ m.stream
      held = get_or-set_same from.streams k m.stream idle m.within

  linked_back : (a b : World) → IsLinked named live asked a b → IsLinked named live asked b a
  linked_back a b l = subst (λ w. IsLinked named live asked w a) (sym l.is) (record {
    p = l.p;
    k = l.k;
    from = l.to;
    to = l.from;
    there = there_same a.processors l.p l.from l.to l.there;
    moved = moved_back l.k l.from l.to l.moved;
    is = λ i. record {
      processors = sym (set-set a.processors l.p l.to l.from ∙ set_itself a.processors l.p l.from l.there) i;
      memory = a.memory;
    };
  })

  chain_back : (cs : List World) (a b : World) → AreLinked named live asked a cs b → WorldsAgree named live asked b a
  chain_back [] a b e = ([], sym e)
  chain_back (c ∷ cs) a b l = agree_next b c a (chain_back cs c b l.1) (agree_link c a (linked_back a c l.0))

  pub agree_back : (a b : World) → WorldsAgree named live asked a b → WorldsAgree named live asked b a
  agree_back a b g = chain_back g.0 a b g.1

module _ (image : ImageValue) (handled : Type 0) (named : ℕ → Type 0) (live asked : ℕ → ℕ → Type 0)
    (closed : TellsFlow image.profile image.program handled named live asked) where
  chain_kept : (cs : List World) (a b : World) (t : Step) → TellsHandlers handled a → AreLinked named live asked a cs b
      → ((world_step image b t).1 ≡ (world_step image a t).1) × WorldsAgree named live asked (after image a t) (after image b t)
  chain_kept [] a b t told e =
      (ap (λ w. (world_step image w t).1) e, ([], ap (λ w. after image w t) e))
  chain_kept (c ∷ cs) a b t told l =
      let one = links_kept image handled named live asked closed a c t told l.0 in
      let more = chain_kept cs c b t (told_linked handled named live asked a c told l.0) l.1 in
      (more.0 ∙ one.comes_out, by one.link more.1)
    where
      by : (after image c t ≡ after image a t) ⊎ IsLinked named live asked (after image a t) (after image c t)
          → WorldsAgree named live asked (after image c t) (after image b t) → WorldsAgree named live asked (after image a t) (after image b t)
      by (inl same) g = subst (λ w. WorldsAgree named live asked w (after image b t)) same g
      by (inr link) g = (after image c t ∷ g.0, (link, g.1))

  pub agreement_kept : (a b : World) (t : Step) → TellsHandlers handled a → WorldsAgree named live asked a b
      → ((world_step image b t).1 ≡ (world_step image a t).1) × WorldsAgree named live asked (after image a t) (after image b t)
  agreement_kept a b t told g = chain_kept g.0 a b t told g.1

  pub schedules_agree : (ts : List Step) (a b : World) → ((us : List Step) → TellsHandlers handled (steps image a us))
      → WorldsAgree named live asked a b → WorldsAgree named live asked (steps image a ts) (steps image b ts)
  schedules_agree [] a b told g = g
  schedules_agree (t ∷ ts) a b told g =
      schedules_agree ts (after image a t) (after image b t) (λ us. told (t ∷ us))
      (agreement_kept a b t (told []) g).1
