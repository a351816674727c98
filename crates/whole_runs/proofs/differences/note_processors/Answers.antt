use Rattle.std.proofs.Common.{[], ◌∷◌, ap, ◌∙◌, arith, length}
use Rattle.image_file.specs.ImageValue.{ImageValue}
use Rattle.step_views.specs.declared.places.Place.TheVariants as place
use Rattle.whole_runs.specs.PlaceLists.{each, stream_places, processor_places}
use Rattle.whole_runs.proofs.Noting.{told_join, each_more, each_end}
use Rattle.whole_runs.proofs.differences.note_processors.Goals as goal

pub loop-p-preserved : goal.loop-p-preserved
loop-p-preserved g c = λ new rest.
    let w = c.args.one.now.world in
    let v = c.args.other.now.world in
    let p = c.loop-p.p in
    let image = c.args.one.now.image in
    let end = c.processors-p-end.ensures.is ∙ ap (λ (i : ImageValue). length i.entries) c.image.ensures.is in
    let old = c.loop-p.found.items in
    let last = c.note_streams.new.found.items in
    c.loop-p.invariant new
    (each_more w v (processor_places image.slim) (length image.entries) p old last new
    (omega (arith, end, c.loop-p-test.true))
    (told_join w v (place.Current p ∷ place.Reserved p ∷ []) (each image.slim 0 (stream_places p)) old
    c.note_counts.new.found.items last c.in_ok-note_counts.ensures c.in_ok-note_streams.ensures)
    rest)

pub returns : goal.returns
returns g c =
    let image = c.args.one.now.image in
    let end = c.processors-p-end.ensures.is ∙ ap (λ (i : ImageValue). length i.entries) c.image.ensures.is in
    c.loop-p.invariant c.loop-p.found.items
    (each_end c.args.one.now.world c.args.other.now.world (processor_places image.slim) (length image.entries)
    c.loop-p.p c.loop-p.found.items (omega (arith, end, c.loop-p-test.false)))
