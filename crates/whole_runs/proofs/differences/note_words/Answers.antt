use Rattle.std.proofs.Common.{◌*◌, [], ◌∷◌, ap, ◌∙◌, arith, length}
use Rattle.image_file.specs.ImageValue.{ImageValue}
use Rattle.step_views.specs.declared.places.Place.TheVariants as place
use Rattle.whole_runs.specs.PlaceLists.{word_places}
use Rattle.whole_runs.proofs.Noting.{told_join, each_more, each_end}
use Rattle.whole_runs.proofs.differences.note_words.Goals as goal

pub loop-index-preserved : goal.loop-index-preserved
loop-index-preserved g c = λ new rest.
    let w = c.args.one.now.world in
    let v = c.args.other.now.world in
    let k = c.loop-index.index in
    let image = c.args.one.now.image in
    let end = ap length (c.cells-index-end.ensures.is ∙ ap (λ (i : ImageValue). i.cells) c.image.ensures.is) in
    let old = c.loop-index.found.items in
    let last = c.note-in-loop-index.new.found.items in
    c.loop-index.invariant new
    (each_more w v word_places (length image.cells) k old last new (omega (arith, end, c.loop-index-test.true))
    (told_join w v (place.Value (k * 8) ∷ []) (place.Tags (k * 8) ∷ []) old c.note.new.found.items last
    c.in_ok-note.ensures c.in_ok-note-2.ensures)
    rest)

pub returns : goal.returns
returns g c =
    let image = c.args.one.now.image in
    let end = ap length (c.cells-index-end.ensures.is ∙ ap (λ (i : ImageValue). i.cells) c.image.ensures.is) in
    c.loop-index.invariant c.loop-index.found.items
    (each_end c.args.one.now.world c.args.other.now.world word_places (length image.cells)
    c.loop-index.index c.loop-index.found.items (omega (arith, end, c.loop-index-test.false)))
