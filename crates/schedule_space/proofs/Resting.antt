-- A step of a stream that does not run leaves the world as it is.
use Rattle.std.proofs.Common.{◌≡◌, true, false, refl, sym, ap, ◌∙◌, Option, Some, None, List, set, slice_get}
use Rattle.std.specs.Prelude.{not}
use Rattle.std.proofs.lemmas.List.{set-get_or}
use Rattle.std.proofs.lemmas.Option.{get_or_from_slice_get}
use Rattle.image_file.specs.ImageValue.{ImageValue}
use Rattle.stream_core.specs.declared.steps.Outcome.{Outcome}
use Rattle.stream_core.specs.declared.steps.Fetch.{Fetch}
use Rattle.stream_core.specs.declared.steps.Fetch.TheVariants as fetch
use Rattle.processor.specs.Processors.{ProcessorValue}
use Rattle.processor.specs.Row.{step_fetch_of, next_of, request}
use Rattle.processor.specs.World.{World, after}
use Rattle.processor.specs.declared.steps.Step.{Step}
use Rattle.processor.proofs.Begun.{rests, row_begun, request_begun}
use Rattle.processor.proofs.Histories.{after-known, after-absent}
use Rattle.waiting.specs.Running.{streams_at, runs_at, runs_in}
use Rattle.waiting.proofs.Needs.{skips, skips-at, rests-begun}

rest_alone : (f : Fetch) → rests f ≡ true → f ≡ fetch.Rest
rest_alone fetch.Rest e = refl
rest_alone (fetch.Trap k) e = cc
rest_alone (fetch.Instruction i) e = cc

rested_at : (image : ImageValue) (w : World) (t : Step) (o : Option ProcessorValue) → slice_get w.processors t.p ≡ o
    → runs_at (slice_get (streams_at o) t.s) ≡ false → after image w t ≡ w
rested_at image w t None there rests_now = after-absent image w t there
rested_at image w t (Some proc) there rests_now =
    let skipped : skips (next_of image proc t.s) ≡ true = skips-at image (Some proc) t.s ∙ ap not rests_now in
    let begins : step_fetch_of image proc t.s ≡ fetch.Rest =
    rest_alone (step_fetch_of image proc t.s) (rests-begun image proc t.s ∙ skipped) in
    let asks : request image proc t.s ≡ None = request_begun image proc t.s fetch.Rest begins in
    let put : ProcessorValue × Outcome → World =
    λ e. record { processors = set w.processors t.p e.0; memory = w.memory } in
    let list : List ProcessorValue → World = λ ps. record { processors = ps; memory = w.memory } in
    after-known image w t proc None there asks
    ∙ ap put (sym (row_begun image proc t.s None fetch.Rest begins))
    ∙ ap (λ x. list (set w.processors t.p x)) (sym (get_or_from_slice_get w.processors t.p proc proc there))
    ∙ ap list (set-get_or w.processors t.p proc)

-- a step of a stream that does not run leaves the world as it is
pub rested : (image : ImageValue) (w : World) (t : Step) → runs_in w t ≡ false → after image w t ≡ w
rested image w t rests_now = rested_at image w t (slice_get w.processors t.p) refl rests_now
