-- A step's view: what is kept of the entries are the changes of its worlds.
use Rattle.std.proofs.Common.{◌≡◌, ◌≢◌, ℕ, zero, suc, ◌<◌, refl, sym, ap, ◌∙◌, subst, arith, inr, Option, Some, None}
use Rattle.std.proofs.Common.{List, [], ◌∷◌, ◌++◌, length, set, if◌then◌else◌, slice_get}
use Rattle.std.specs.Option.{option_map}
use Rattle.std.proofs.lemmas.Option.{slice_get_within}
use Rattle.tag_memory.specs.Answer.{OthersStay}
use Rattle.image_file.specs.ImageValue.{ImageValue}
use Rattle.stream_core.specs.declared.steps.Outcome.{Outcome}
use Rattle.machine.specs.Processor.Processors.{ProcessorValue, IsCounted}
use Rattle.machine.specs.Processor.Row.{request, memory_reply, row_over_memory}
use Rattle.machine.specs.Processor.World.{World, counts_at, counts_of, world_step, after}
use Rattle.machine.specs.ProcessorTypes.Step.{Step}
use Rattle.machine.proofs.Processor.OtherStreams.{kept_row_over_memory}
use Rattle.machine.proofs.Processor.World.{world_step-absent, world_step-present}
use Rattle.step_views.specs.declared.places.Change.{Change}
use Rattle.step_views.specs.declared.seen.Seen.{Seen}
use Rattle.step_views.specs.declared.step_views.Reference.{Reference}
use Rattle.step_views.specs.Places.{used_stream_in, used_stream}
use Rattle.step_views.specs.Changes.{AreChanges}
use Rattle.step_views.specs.StepViews.{asked_in, reference_to, reference_of}
use Rattle.step_views.specs.Comparing.{AreKept, free_in, word_seen, stream_compared, has_grown, free_compared}
use Rattle.step_views.specs.Comparing.{started_compared, counts_compared, word_compared, compared}
use Rattle.step_views.proofs.Covering.{AreEntries, changes_kept}
use Rattle.step_views.proofs.Starting.{starts}
use Rattle.step_views.proofs.Words.{KeepsWords, replied}
use Rattle.step_views.proofs.Stepping.{IsStepped, compared_worlds, stepped_entries}

-- A step of a processor that is not there.

no_entries : (w : World) → AreEntries w w []
no_entries w = record { right = λ c h. absurd h; apart = tt; all = λ x. inr refl }

none_compared : (w : World) (p s : ℕ) → slice_get w.processors p ≡ None → compared_worlds w w p s None ≡ []
none_compared w p s none =
    ap (λ (o : Option ProcessorValue).
    stream_compared p s (used_stream_in o s) (used_stream w p s)
    ++ (if has_grown (counts_at o) (counts_of w p) then free_compared p (free_in o) w else [])
    ++ counts_compared p (counts_at o) (counts_of w p)
    ++ word_compared (word_seen w.memory None) w.memory) none

absent_reference : (image : ImageValue) (w : World) (t : Step) → slice_get w.processors t.p ≡ None
    → reference_of image w t ≡ None
unfolding reference_of
absent_reference image w t none =
    ap (λ (o : Option ProcessorValue). option_map (reference_to w.memory) (asked_in image o t.s)) none

absent_entries : (image : ImageValue) (w : World) (t : Step) → slice_get w.processors t.p ≡ None
    → AreEntries w (after image w t) (compared_worlds w (after image w t) t.p t.s (reference_of image w t))
absent_entries image w t none =
    let stays : w ≡ after image w t = ap (λ (x : World × Outcome). x.0) (world_step-absent image w t none) in
    let P : World → Type 0 = λ v. AreEntries w v (compared_worlds w v t.p t.s (reference_of image w t)) in
    let Q : Option Reference → Type 0 = λ r. AreEntries w w (compared_worlds w w t.p t.s r) in
    subst P stays (subst Q (sym (absent_reference image w t none))
    (subst (AreEntries w w) (sym (none_compared w t.p t.s none)) (no_entries w)))

-- A step of one that is there.

set_same : (ps : List ProcessorValue) (p : ℕ) (next : ProcessorValue) → p < length ps
    → slice_get (set ps p next) p ≡ Some next
set_same [] p next within = absurd (omega arith)
set_same (x ∷ ps) zero next within = refl
set_same (x ∷ ps) (suc p) next within = set_same ps p next (omega arith)

set_other : (ps : List ProcessorValue) (p q : ℕ) (next : ProcessorValue) → (q ≢ p)
    → slice_get (set ps p next) q ≡ slice_get ps q
set_other [] p q next apart = refl
set_other (x ∷ ps) zero zero next apart = absurd (apart refl)
set_other (x ∷ ps) zero (suc q) next apart = refl
set_other (x ∷ ps) (suc p) zero next apart = refl
set_other (x ∷ ps) (suc p) (suc q) next apart = set_other ps p q next (λ e. apart (ap suc e))

present_words : OthersStay → (image : ImageValue) (w : World) (t : Step) (proc : ProcessorValue)
    → slice_get w.processors t.p ≡ Some proc
    → KeepsWords w.memory (row_over_memory image proc t.s w.memory).1 (reference_of image w t)
unfolding row_over_memory reference_of
present_words law image w t proc there =
    let asked : asked_in image (slice_get w.processors t.p) t.s ≡ request image proc t.s =
    ap (λ (o : Option ProcessorValue). asked_in image o t.s) there in
    let after = (memory_reply w.memory (request image proc t.s)).0 in
    let P : Option Reference → Type 0 = λ r. KeepsWords w.memory after r in
    subst P (sym (ap (option_map (reference_to w.memory)) asked)) (replied law w.memory (request image proc t.s))

present_entries : OthersStay → (image : ImageValue) (w : World) (t : Step) (proc : ProcessorValue) → IsCounted proc
    → slice_get w.processors t.p ≡ Some proc
    → AreEntries w (after image w t) (compared_worlds w (after image w t) t.p t.s (reference_of image w t))
present_entries law image w t proc counted there =
    let stepped = row_over_memory image proc t.s w.memory in
    let next = stepped.0.0 in
    let new : World = record { processors = set w.processors t.p next; memory = stepped.1 } in
    let is : new ≡ after image w t =
    ap (λ (x : World × Outcome). x.0) (world_step-present image w t proc next stepped.1 stepped.0.1 there refl) in
    let P : World → Type 0 = λ v. AreEntries w v (compared_worlds w v t.p t.s (reference_of image w t)) in
    let h : IsStepped w new t.p t.s (reference_of image w t) proc next = record {
      before = there;
      after = set_same w.processors t.p next (slice_get_within w.processors t.p proc there);
      elsewhere = λ q apart. set_other w.processors t.p q next apart;
      kept = kept_row_over_memory image proc t.s w.memory;
      starts = starts image proc t.s w.memory counted;
      counted = counted;
      words = present_words law image w t proc there;
    } in
    subst P is (stepped_entries w new t.p t.s (reference_of image w t) proc next h)

-- Any step.

-- each processor of the step is counted
abbrev pub IsCountedAt : World → ℕ → Type 0
IsCountedAt w p = (d : ProcessorValue) → slice_get w.processors p ≡ Some d → IsCounted d

step_entries_by : OthersStay → (image : ImageValue) (w : World) (t : Step) → IsCountedAt w t.p
    → (o : Option ProcessorValue) → slice_get w.processors t.p ≡ o
    → AreEntries w (after image w t) (compared_worlds w (after image w t) t.p t.s (reference_of image w t))
step_entries_by law image w t counted None e = absent_entries image w t e
step_entries_by law image w t counted (Some proc) e = present_entries law image w t proc (counted proc e) e

seen_compared : (w v : World) (t : Step) (r : Option Reference) (seen : Seen) → seen.stream ≡ used_stream w t.p t.s
    → seen.free ≡ free_in (slice_get w.processors t.p) → seen.counts ≡ counts_of w t.p
    → seen.word ≡ word_seen w.memory r → compared seen v t ≡ compared_worlds w v t.p t.s r
unfolding compared
seen_compared w v t r seen stream free counts word =
    λ i.
    stream_compared t.p t.s (stream i) (used_stream v t.p t.s)
    ++ started_compared t.p (free i) (counts i) v
    ++ counts_compared t.p (counts i) (counts_of v t.p)
    ++ word_compared (word i) v.memory

pub view_changes : OthersStay → (image : ImageValue) (w v : World) (t : Step) (r : Option Reference) (seen : Seen)
    (o : Outcome) (none made told : List Change) → IsCountedAt w t.p → r ≡ reference_of image w t
    → seen.stream ≡ used_stream w t.p t.s → seen.free ≡ free_in (slice_get w.processors t.p)
    → seen.counts ≡ counts_of w t.p → seen.word ≡ word_seen w.memory r → (v, o) ≡ world_step image w t
    → none ≡ [] → AreKept (compared seen v t) none made → told ≡ made
    → AreChanges w (after image w t) told
view_changes law image w v t r seen o none made told counted reference stream free counts word step empty kept is =
    let world : v ≡ after image w t = ap (λ (x : World × Outcome). x.0) step in
    let words : seen.word ≡ word_seen w.memory (reference_of image w t) = word ∙ ap (word_seen w.memory) reference in
    let entries : compared seen v t ≡ compared_worlds w (after image w t) t.p t.s (reference_of image w t) =
    seen_compared w v t (reference_of image w t) seen stream free counts words
    ∙ ap (λ x. compared_worlds w x t.p t.s (reference_of image w t)) world in
    let P : List Change → Type 0 = λ l. AreKept l [] made in
    let Q : List Change → Type 0 = λ l. AreKept (compared seen v t) l made in
    let all = step_entries_by law image w t counted (slice_get w.processors t.p) refl in
    subst (AreChanges w (after image w t)) (sym is)
    (changes_kept w (after image w t) (compared_worlds w (after image w t) t.p t.s (reference_of image w t)) made all
    (subst P entries (subst Q empty kept)))
