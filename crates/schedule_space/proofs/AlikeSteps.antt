-- Steps of processors and of streams that are the same where they are cleared of registers that do not matter: what they
-- leave is the same so too.
use Rattle.std.proofs.Common.{◌≡◌, ◌<◌, length, ℕ, zero, suc, refl, sym, ap, ◌∙◌, subst, [], ◌∷◌}
use Rattle.std.specs.Prelude.{IsTrue}
use Rattle.std.proofs.lemmas.Option.{slice_get-get_or}
use Rattle.insn_word.specs.declared.insn.Insn.{Insn}
use Rattle.insn_word.specs.declared.insn.Insn.TheVariants.{Wide, Normal}
use Rattle.insn_word.specs.declared.insn.CPart.{CPart}
use Rattle.insn_word.specs.declared.operations.ControlOp.{ControlOp}
use Rattle.insn_word.specs.declared.operations.ControlOp.TheVariants as control
use Rattle.tag_memory.specs.Storage.{TaggedMemory}
use Rattle.image_file.specs.ImageValue.{ImageValue}
use Rattle.stream_core.specs.Streams.{StreamValue}
use Rattle.stream_core.specs.StreamRow.{fetch_of, control_by, control_of, control_from, control_at}
use Rattle.stream_core.specs.declared.steps.Fetch.{Fetch}
use Rattle.stream_core.specs.declared.steps.Fetch.TheVariants as fetch
use Rattle.stream_core.specs.declared.steps.Control.TheVariants as asks
use Rattle.processor.specs.Processors.{ProcessorValue, stream_at}
use Rattle.processor.specs.Row.{row_over_memory}
use Rattle.processor.specs.World.{World, world_step, after}
use Rattle.processor.specs.declared.steps.Step.{Step}
use Rattle.program_flow.specs.Tables.{is_live_at, is_named_by, is_asked_at}
use Rattle.agreeing_ends.specs.SameFutures.Links.{TellsHandlers}
use Rattle.agreeing_ends.specs.SameFutures.Handlers.{may_have_handlers}
use Rattle.agreeing_ends.proofs.SameFutures.Chains.{agreement_kept}
use Rattle.world_keys.specs.DeadRegisters.Clearing.{LiveValue, cleared_stream, cleared_processor, cleared, IsLive}
use Rattle.world_keys.proofs.DeadRegisters.Worlds.{same_agree, agreeing_same}
use Rattle.world_keys.specs.WorldKeys.{processor_in, no_processor}
use Rattle.schedule_space.specs.KnownSteps.{IsTold, AreTold}
use Rattle.schedule_space.specs.StreamSteps.{stream_over_memory, IsPlainIn}
use Rattle.schedule_space.proofs.PlainSteps.{plain_processor, plain_memory}

-- the streams of a processor of the world
pub told_in : (image : ImageValue) (w : World) (p : ℕ) → p < length w.processors
    → TellsHandlers (IsTrue (may_have_handlers image)) w → AreTold image (processor_in w p)
told_in image w p there told k runs may =
    told p k (processor_in w p) (slice_get-get_or w.processors p no_processor there) runs may

-- Instructions that neither reserve nor start nor end a stream: their registers do not say so.

plain_by : (a b : StreamValue) (c : CPart) (o : ControlOp) → control_by a c o ≡ asks.Plain → control_by b c o ≡ asks.Plain
plain_by a b c control.Nop is = refl
plain_by a b c control.Jump is = refl
plain_by a b c control.Skip is = refl
plain_by a b c control.Call is = refl
plain_by a b c control.Exchange is = refl
plain_by a b c control.TargetSet is = refl
plain_by a b c control.TargetGet is = refl
plain_by a b c control.TrapGet is = refl
plain_by a b c control.Reserve is = absurd cc
plain_by a b c control.Create is = absurd cc
plain_by a b c control.Quit is = absurd cc
plain_by a b c control.QuitKeep is = absurd cc
plain_by a b c control.Mask is = refl

plain_of : (a b : StreamValue) (i : Insn) → control_of a i ≡ asks.Plain → control_of b i ≡ asks.Plain
unfolding control_of
plain_of a b (Wide look op reg imm) is = refl
plain_of a b (Normal look m x c) is = plain_by a b c c.op is

plain_from : (a b : StreamValue) (f : Fetch) → control_from a f ≡ asks.Plain → control_from b f ≡ asks.Plain
plain_from a b fetch.Rest is = refl
plain_from a b (fetch.Trap k) is = refl
plain_from a b (fetch.Instruction i) is = plain_of a b i is

module _ (image : ImageValue) (l : LiveValue) where
  pub plain_alike : (a b : StreamValue) → cleared_stream l a ≡ cleared_stream l b → IsPlainIn image a → IsPlainIn image b
  unfolding control_at fetch_of
  plain_alike a b same plain =
      let f : Fetch = fetch_of image.profile image.program a in
      let status : a.status ≡ b.status = ap (λ (x : StreamValue). x.status) same in
      let pc : a.ssw.pc ≡ b.ssw.pc = ap (λ (x : StreamValue). x.ssw.pc) same in
      let fetched : f ≡ fetch_of image.profile image.program b =
      λ i. fetch_of image.profile image.program (record a { status = status i; ssw = record a.ssw { pc = pc i } }) in
      subst (λ (g : Fetch). control_from b g ≡ asks.Plain) fetched (plain_from a b f plain)

  module _ (live : IsLive image l) where
    abbrev Named : ℕ → Type 0
    Named r = IsTrue (is_named_by l.names r)

    abbrev Live : ℕ → ℕ → Type 0
    Live k r = IsTrue (is_live_at l.table k r)

    abbrev Asked : ℕ → ℕ → Type 0
    Asked k c = IsTrue (is_asked_at l.codes k c)

    -- a world of one processor
    abbrev alone : ProcessorValue → TaggedMemory → World
    alone proc m = record { processors = proc ∷ []; memory = m }

    told_alone : (proc : ProcessorValue) (m : TaggedMemory) → AreTold image proc
        → TellsHandlers (IsTrue (may_have_handlers image)) (alone proc m)
    told_alone proc m told zero k q there =
        let same : proc ≡ q = cc in subst (λ (x : ProcessorValue). IsTold image (stream_at x.streams k)) same (told k)
    told_alone proc m told (suc p) k q there = absurd cc

    after_alone : (proc : ProcessorValue) (s : ℕ) (m : TaggedMemory)
        → after image (alone proc m) (record { p = 0; s = s })
        ≡ alone (row_over_memory image proc s m).0.0 (row_over_memory image proc s m).1
    unfolding world_step
    after_alone proc s m = refl

    cleared_alone : (proc : ProcessorValue) (m : TaggedMemory) → cleared l (alone proc m) ≡ alone (cleared_processor l proc) m
    unfolding cleared
    cleared_alone proc m = refl

    pub processors_alike : (a b : ProcessorValue) (s : ℕ) (m : TaggedMemory) → AreTold image a
        → cleared_processor l a ≡ cleared_processor l b
        → (cleared_processor l (row_over_memory image a s m).0.0 ≡ cleared_processor l (row_over_memory image b s m).0.0)
        × ((row_over_memory image a s m).1 ≡ (row_over_memory image b s m).1)
    processors_alike a b s m told same =
        let t : Step = record { p = 0; s = s } in
        let e = row_over_memory image a s m in
        let f = row_over_memory image b s m in
        let agree =
        same_agree l (alone a m) (alone b m)
        (cleared_alone a m ∙ ap (λ (x : ProcessorValue). alone x m) same ∙ sym (cleared_alone b m)) in
        let kept =
        (agreement_kept image (IsTrue (may_have_handlers image)) Named Live Asked
        (record { registers = live.registers; codes = live.codes }) (alone a m) (alone b m) t
        (told_alone a m told) agree).1 in
        let behind : alone (cleared_processor l e.0.0) e.1 ≡ alone (cleared_processor l f.0.0) f.1 =
        sym (cleared_alone e.0.0 e.1)
        ∙ ap (cleared l) (sym (after_alone a s m))
        ∙ agreeing_same l (after image (alone a m) t) (after image (alone b m) t) kept
        ∙ ap (cleared l) (after_alone b s m)
        ∙ cleared_alone f.0.0 f.1 in (
          ap (λ (w : World). processor_in w 0) behind,
          ap (λ (w : World). w.memory) behind,
        )

    -- a processor of one stream
    abbrev only : StreamValue → ProcessorValue
    only s = record { streams = s ∷ []; scur = 1; sres = 1 }

    told_only : (s : StreamValue) → IsTold image s → AreTold image (only s)
    told_only s told zero = told
    told_only s told (suc k) = λ runs may. absurd cc

    pub streams_alike : (a b : StreamValue) (m : TaggedMemory) → IsTold image a → IsPlainIn image a
        → cleared_stream l a ≡ cleared_stream l b
        → (cleared_stream l (stream_over_memory image a m).0 ≡ cleared_stream l (stream_over_memory image b m).0)
        × ((stream_over_memory image a m).1 ≡ (stream_over_memory image b m).1)
    streams_alike a b m told plain same =
        let e = stream_over_memory image a m in
        let f = stream_over_memory image b m in
        let other = plain_alike a b same plain in
        let both =
        processors_alike (only a) (only b) 0 m (told_only a told)
        (ap only same) in
        let one = plain_processor image (only a) 0 a m refl plain in
        let two = plain_processor image (only b) 0 b m refl other in
        let processors : cleared_processor l (only e.0) ≡ cleared_processor l (only f.0) =
        sym (ap (cleared_processor l) one) ∙ both.0 ∙ ap (cleared_processor l) two in (
          ap (λ (q : ProcessorValue). stream_at q.streams 0) processors,
          sym (plain_memory image (only a) 0 a m refl plain) ∙ both.1 ∙ plain_memory image (only b) 0 b m refl other,
        )
