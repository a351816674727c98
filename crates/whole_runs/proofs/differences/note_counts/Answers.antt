use Rattle.std.proofs.Common.{[], ◌∷◌}
use Rattle.step_views.specs.declared.places.Place.TheVariants as place
use Rattle.whole_runs.proofs.Noting.{told_join}
use Rattle.whole_runs.proofs.differences.note_counts.Goals as goal

pub returns : goal.returns
returns g c =
    told_join c.args.one.now.world c.args.other.now.world (place.Current c.args.p ∷ []) (place.Reserved c.args.p ∷ [])
    c.args.found.now.items c.note.new.found.items c.note-2.new.found.items c.in_ok-note.ensures c.in_ok-note-2.ensures
