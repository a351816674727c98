use Rattle.std.proofs.Common.{List, length, refl, subst}
use Rattle.step_views.specs.declared.places.Change.{Change}
use Rattle.whole_runs.specs.PlaceLists.{each, processor_places, word_places, places_of, AreTold}
use Rattle.whole_runs.proofs.Noting.{told_join}
use Rattle.whole_runs.proofs.Covered.{world_of, changes_told}
use Rattle.whole_runs.proofs.differences.world_differences.Goals as goal

pub returns-clause-order : goal.returns-clause-order
returns-clause-order g c =
    let w = c.args.one.now.world in
    let v = c.args.other.now.world in
    let image = c.args.one.now.image in
    let new = c.note_words.new.found.items in
    subst (λ (old : List Change). AreTold w v (places_of image) old new) c.new-found.ensures.items
    (told_join w v (each (length image.entries) 0 (processor_places image.slim))
    (each (length image.cells) 0 word_places) c.new-found.result.items c.note_processors.new.found.items new
    c.in_ok-note_processors.ensures c.in_ok-note_words.ensures)

pub returns-clause-changes : goal.returns-clause-changes
returns-clause-changes g c =
    let one = c.args.one.now in
    let other = c.args.other.now in
    let image = one.image in
    let new = c.note_words.new.found.items in
    let told =
    subst (λ (old : List Change). AreTold one.world other.world (places_of image) old new) c.new-found.ensures.items
    (told_join one.world other.world (each (length image.entries) 0 (processor_places image.slim))
    (each (length image.cells) 0 word_places) c.new-found.result.items c.note_processors.new.found.items new
    c.in_ok-note_processors.ensures c.in_ok-note_words.ensures) in
    changes_told image one.world other.world (world_of g.row.S image one c.image.ensures.kept refl c.requires.memory)
    (world_of g.row.S image other c.image-2.ensures.kept c.requires.image c.requires.other_memory) new told
