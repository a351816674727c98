-- What a schedule comes to has the shape of the image.
use Rattle.std.proofs.Common.{◌≡◌, ◌≢◌, ℕ, zero, suc, ◌<◌, ◌≤◌, ◌⊎◌, inl, inr, refl, sym, ap, ◌∙◌, subst, arith}
use Rattle.std.proofs.Common.{List, [], ◌∷◌, length, map, get_or, set, Option, Some, None}
use Rattle.std.specs.List.{slice_get}
use Rattle.std.proofs.lemmas.Bool.{cases_lt}
use Rattle.image_file.specs.ImageValue.{ImageValue}
use Rattle.shared_history.specs.Schedule.{WovenValue}
use Rattle.stream_core.specs.declared.steps.Outcome.{Outcome}
use Rattle.tag_memory.specs.Storage.{TaggedMemory}
use Rattle.processor.specs.Processors.{ProcessorValue, opening}
use Rattle.processor.specs.Row.{row_over_memory}
use Rattle.processor.specs.World.{World, start, after, steps, run, world_step, world_step_at}
use Rattle.processor.specs.declared.steps.Step.{Step}
use Rattle.processor.proofs.OtherStreams.{kept_row_over_memory}
use Rattle.processor.proofs.Weaving.{run-length}
use Rattle.processor.proofs.Opening.{opening-length}
use Rattle.machine.specs.MachineValue.{IsMachine}

-- each processor has so many streams
abbrev HaveStreams : ℕ → List ProcessorValue → Type 0
HaveStreams n ds = (k : ℕ) (d : ProcessorValue) → k < length ds → length (get_or ds k d).streams ≡ n

opened : (image : ImageValue) (es : List ℕ) → HaveStreams image.slim (map (opening image) es)
opened image [] k d below = absurd (omega arith)
opened image (e ∷ es) zero d below = opening-length image e
opened image (e ∷ es) (suc k) d below = opened image es k d (omega arith)

at : (ds : List ProcessorValue) (p n : ℕ) (x : ProcessorValue) → slice_get ds p ≡ Some x → HaveStreams n ds
    → length x.streams ≡ n
at [] p n x e have = cc
at (d ∷ ds) zero n x e have =
    let same : d ≡ x = cc in
    ap (λ (q : ProcessorValue). length q.streams) (sym same) ∙ have zero d (omega arith)
at (d ∷ ds) (suc p) n x e have = at ds p n x e (λ k c below. have (suc k) c (omega arith))

with_one : (ds : List ProcessorValue) (p n : ℕ) (x : ProcessorValue) → length x.streams ≡ n → HaveStreams n ds
    → HaveStreams n (set ds p x)
with_one [] p n x e have k d below = absurd (omega arith)
with_one (d ∷ ds) zero n x e have zero c below = e
with_one (d ∷ ds) zero n x e have (suc k) c below = have (suc k) c (omega arith)
with_one (d ∷ ds) (suc p) n x e have zero c below = have zero c (omega arith)
with_one (d ∷ ds) (suc p) n x e have (suc k) c below =
    with_one ds p n x e (λ j b within. have (suc j) b (omega arith)) k c (omega arith)

stepped : (image : ImageValue) (w : World) (t : Step) (n : ℕ) (o : Option ProcessorValue)
    → slice_get w.processors t.p ≡ o → HaveStreams n w.processors
    → HaveStreams n (world_step_at image w t o).0.processors
stepped image w t n None e have = have
stepped image w t n (Some proc) e have =
    with_one w.processors t.p n (row_over_memory image proc t.s w.memory).0.0
    ((kept_row_over_memory image proc t.s w.memory).as_many ∙ at w.processors t.p n proc e have) have

after_one : (image : ImageValue) (w : World) (t : Step) (n : ℕ) → HaveStreams n w.processors
    → HaveStreams n (after image w t).processors
unfolding world_step
after_one image w t n have = stepped image w t n (slice_get w.processors t.p) refl have

after_all : (image : ImageValue) (w : World) (ts : List Step) (n : ℕ) → HaveStreams n w.processors
    → HaveStreams n (steps image w ts).processors
after_all image w [] n have = have
after_all image w (t ∷ ts) n have = after_all image (after image w t) ts n (after_one image w t n have)

at_start : (image : ImageValue) → HaveStreams image.slim (start image).processors
unfolding start
at_start image = opened image image.entries

pub shape : (size : ℕ) (image : ImageValue) (w : WovenValue) → w.shared.image ≡ image → image.slim ≤ size
    → IsMachine size (record { image = image; world = run w.shared.image w.schedule })
shape size image w same within =
    let P : ImageValue → Type 0 = λ x. IsMachine size (record { image = image; world = run x w.schedule }) in
    subst P (sym same) (record {
      within = within;
      one_each = run-length image w.schedule;
      slims = after_all image (start image) w.schedule image.slim (at_start image);
    })
