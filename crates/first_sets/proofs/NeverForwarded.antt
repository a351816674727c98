-- Where no word of an image has the forward bit and no instruction is a TAGSET of another register than r0, no word ever
-- has it.
use Rattle.std.proofs.Common.{◌≡◌, ℕ, zero, suc, ◌/◌, ◌%◌, ◌==◌, Bool, true, false, refl, sym, ap, ◌∙◌, subst}
use Rattle.std.proofs.Common.{if◌then◌else◌, List, [], ◌∷◌, Option, Some, None, slice_get}
use Rattle.std.specs.List.{list_any}
use Rattle.std.specs.Prelude.{◌&&◌, not}
use Rattle.std.proofs.lemmas.Bool.{or_parts, eqb-true, not-false}
use Rattle.insn_word.specs.Reading.{instruction_in}
use Rattle.insn_word.specs.declared.operations.MemoryOp.{MemoryOp}
use Rattle.insn_word.specs.declared.operations.MemoryOp.TheVariants as memory
use Rattle.insn_word.specs.declared.insn.MPart.{MPart}
use Rattle.insn_word.specs.declared.insn.Insn.{Insn}
use Rattle.insn_word.specs.declared.insn.Insn.TheVariants.{Wide, Normal}
use Rattle.tag_memory.specs.Cell.{Cell, has_bit}
use Rattle.tag_memory.specs.Storage.{TaggedMemory}
use Rattle.tag_memory.specs.Unforwarded.{IsUnforwarded, sets_forward}
use Rattle.tag_memory.specs.declared.requests.Request.{Request}
use Rattle.tag_memory.proofs.NoForwards.{stays_unforwarded}
use Rattle.image_file.specs.ImageValue.{ImageValue}
use Rattle.stream_core.specs.Streams.{StreamValue}
use Rattle.stream_core.specs.Effects.{request_by, request_of}
use Rattle.stream_core.specs.StreamRow.{fetch_instruction, fetch_word, fetch_if, fetch_of, control_of}
use Rattle.stream_core.specs.declared.traps.TrapKind.TheVariants as kind
use Rattle.stream_core.specs.declared.steps.Status.{Status}
use Rattle.stream_core.specs.declared.steps.Status.TheVariants.{Idle, Running, Stopped}
use Rattle.stream_core.specs.declared.steps.Fetch.{Fetch}
use Rattle.stream_core.specs.declared.steps.Fetch.TheVariants as fetch
use Rattle.processor.specs.Processors.{ProcessorValue, stream_at}
use Rattle.processor.specs.Row.{lacks_stream, image_fetch, step_fetch_from, step_fetch, step_fetch_at, step_fetch_of}
use Rattle.processor.specs.Row.{request_on_fetch, request, memory_reply, row_over_memory}
use Rattle.processor.specs.World.{World, start, after, steps, run}
use Rattle.processor.specs.declared.steps.Step.{Step}
use Rattle.processor.proofs.Begun.{request_begun}
use Rattle.processor.proofs.Histories.{after-absent}
use Rattle.local_steps.proofs.Commuting.{after_there}
use Rattle.stream_core.specs.Registers.{register_at}
use Rattle.first_sets.proofs.ZeroRegisters.{IsZero, AreAllZero, after_zero, start_zero}
use Rattle.first_sets.specs.NoForwardBits.{is_tag_set, sets_tags, sets_tags_if, word_sets_tags, may_forward}

-- what holds of none of a list holds of no element of it
none_of : {X : Type 0} (p : X → Bool) (xs : List X) → list_any p xs ≡ false → (k : ℕ) (x : X) → slice_get xs k ≡ Some x
    → p x ≡ false
none_of p [] e k x got = let none : ⊥ = cc in absurd none
none_of p (y ∷ ys) e zero x got = let same : y ≡ x = cc in ap p (sym same) ∙ (or_parts (p y) (list_any p ys) e).0
none_of p (y ∷ ys) e (suc k) x got = none_of p ys (or_parts (p y) (list_any p ys) e).1 k x got

-- Requests.

some_same : {q r : Request} → Some q ≡ Some r → q ≡ r
some_same e = cc

-- what a request asks for sets no forward bit
abbrev SetsNone : Option Request → Type 0
SetsNone o = (q : Request) → o ≡ Some q → sets_forward q.op q.value ≡ false

of_one : (r : Request) → sets_forward r.op r.value ≡ false → SetsNone (Some r)
of_one r none q e = ap (λ (x : Request). sets_forward x.op x.value) (sym (some_same e)) ∙ none

of_none : SetsNone None
of_none q e = cc

-- a TAGSET of r0 sets no tag
of_zero : (rs : List ℕ) (rd : ℕ) → register_at rs 0 ≡ 0 → not (rd == 0) ≡ false → has_bit (register_at rs rd % 16) 1 ≡ false
of_zero rs rd is e =
    ap (λ r. has_bit (register_at rs r % 16) 1) (eqb-true rd 0 (not-false (rd == 0) e)) ∙ ap (λ n. has_bit (n % 16) 1) is

by_none : (s : StreamValue) (m : MPart) (o : MemoryOp) → IsZero s → (is_tag_set o && not (m.rd == 0)) ≡ false
    → SetsNone (request_by s m o)
by_none s m memory.Nop is e = of_none
by_none s m memory.Load is e = of_one _ refl
by_none s m memory.Store is e = of_one _ refl
by_none s m memory.FetchAdd is e = of_one _ refl
by_none s m memory.TagGet is e = of_one _ refl
by_none s m memory.TagSet is e = of_one _ (of_zero s.registers m.rd is e)
by_none s m memory.Purge is e = of_one _ refl

of_instruction : (s : StreamValue) (i : Insn) → IsZero s → sets_tags i ≡ false → SetsNone (request_of s i)
unfolding request_of
of_instruction s (Wide look op reg imm) is e = of_none
of_instruction s (Normal look m a c) is e = by_none s m m.op is e

-- whether what stands at the pc is TAGSET
abbrev fetch_sets : Fetch → Bool
fetch_sets fetch.Rest = false
fetch_sets (fetch.Trap k) = false
fetch_sets (fetch.Instruction i) = sets_tags i

of_fetch : (s : StreamValue) (f : Fetch) → IsZero s → fetch_sets f ≡ false → SetsNone (request_on_fetch s f)
of_fetch s fetch.Rest is e = of_none
of_fetch s (fetch.Trap k) is e = of_none
of_fetch s (fetch.Instruction i) is e = of_instruction s i is e

kept : (m : TaggedMemory) (o : Option Request) → SetsNone o → IsUnforwarded m → IsUnforwarded (memory_reply m o).0
kept m None none un = un
kept m (Some q) none un = stays_unforwarded m q un (none q refl)

-- Worlds.

there : (b : Bool) (o : Option Cell) (c : Cell) → (if b then o else None) ≡ Some c → o ≡ Some c
there true o c e = e
there false o c e = cc

module _ (image : ImageValue) (without : may_forward image ≡ false) where
  both : (list_any (λ (c : Cell). c.forward) image.cells ≡ false) × (list_any (word_sets_tags image.profile) image.program ≡ false)
  unfolding may_forward
  both = or_parts (list_any (λ (c : Cell). c.forward) image.cells) (list_any (word_sets_tags image.profile) image.program) without

  found : (o : Option Insn) → sets_tags_if o ≡ false → fetch_sets (fetch_instruction o) ≡ false
  found None e = refl
  found (Some i) e = e

  word_fine : (k : ℕ) (o : Option ℕ) → slice_get image.program k ≡ o → fetch_sets (fetch_word image.profile o) ≡ false
  word_fine k None got = refl
  word_fine k (Some word) got =
      found (instruction_in image.profile word) (none_of (word_sets_tags image.profile) image.program both.1 k word got)

  status_fine : (st : Status) (pc : ℕ) → fetch_sets (fetch_if image.profile st image.program pc) ≡ false
  status_fine Running pc = word_fine pc (slice_get image.program pc) refl
  status_fine Idle pc = refl
  status_fine (Stopped k) pc = refl

  begun_fine : (proc : ProcessorValue) (s : StreamValue) (f : Fetch) → fetch_sets f ≡ false
      → fetch_sets (step_fetch_from proc s f) ≡ false
  begun_fine proc s fetch.Rest e = refl
  begun_fine proc s (fetch.Trap k) e = refl
  begun_fine proc s (fetch.Instruction i) e = by (lacks_stream proc (control_of s i)) where
    by : (b : Bool) → fetch_sets (if b then fetch.Trap kind.Create else fetch.Instruction i) ≡ false
    by true = refl
    by false = e

  step_fine : (proc : ProcessorValue) (o : Option StreamValue) → fetch_sets (step_fetch_at image proc o) ≡ false
  unfolding step_fetch fetch_of
  step_fine proc None = refl
  step_fine proc (Some s) = begun_fine proc s (image_fetch image s) (status_fine s.status s.ssw.pc)

  begins_fine : (proc : ProcessorValue) (n : ℕ) → fetch_sets (step_fetch_of image proc n) ≡ false
  unfolding step_fetch_of
  begins_fine proc n = step_fine proc (slice_get proc.streams n)

  over_fine : (proc : ProcessorValue) (n : ℕ) (m : TaggedMemory) → IsZero (stream_at proc.streams n) → IsUnforwarded m
      → IsUnforwarded (row_over_memory image proc n m).1
  unfolding row_over_memory
  over_fine proc n m is un =
      kept m (request image proc n)
      (subst SetsNone (sym (request_begun image proc n (step_fetch_of image proc n) refl))
      (of_fetch (stream_at proc.streams n) (step_fetch_of image proc n) is (begins_fine proc n)))
      un

  after_fine : (w : World) (t : Step) → AreAllZero w → IsUnforwarded w.memory → IsUnforwarded (after image w t).memory
  after_fine w t zeros un = by (slice_get w.processors t.p) refl where
    by : (o : Option ProcessorValue) → slice_get w.processors t.p ≡ o → IsUnforwarded (after image w t).memory
    by None none = subst (λ (v : World). IsUnforwarded v.memory) (sym (after-absent image w t none)) un
    by (Some proc) at =
        subst (λ (v : World). IsUnforwarded v.memory) (sym (after_there image w t proc at))
        (over_fine proc t.s w.memory (zeros t.p proc at t.s) un)

  steps_fine : (ts : List Step) (w : World) → AreAllZero w → IsUnforwarded w.memory → IsUnforwarded (steps image w ts).memory
  steps_fine [] w zeros un = un
  steps_fine (t ∷ ts) w zeros un = steps_fine ts (after image w t) (after_zero image w t zeros) (after_fine w t zeros un)

  start_fine : IsUnforwarded (start image).memory
  unfolding start
  start_fine a c got =
      none_of (λ (x : Cell). x.forward) image.cells both.0 (a / 8) c
      (there (a % 8 == 0) (slice_get image.cells (a / 8)) c got)

  pub never_forwarded : (ts : List Step) → IsUnforwarded (run image ts).memory
  never_forwarded ts = steps_fine ts (start image) (start_zero image) start_fine
