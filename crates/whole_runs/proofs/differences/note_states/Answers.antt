use Rattle.std.proofs.Common.{[], ◌∷◌}
use Rattle.step_views.specs.declared.places.StreamPart.TheVariants as part
use Rattle.step_views.specs.declared.places.Place.{Place}
use Rattle.step_views.specs.declared.places.Place.TheVariants as place
use Rattle.whole_runs.proofs.Noting.{told_join}
use Rattle.whole_runs.proofs.differences.note_states.Goals as goal

pub returns : goal.returns
returns g c =
    let w = c.args.one.now.world in
    let v = c.args.other.now.world in
    let last = c.note_part-7.new.found.items in
    let pc : Place = place.Stream c.args.p c.args.s part.Pc in
    let codes : Place = place.Stream c.args.p c.args.s part.Codes in
    let mask : Place = place.Stream c.args.p c.args.s part.Mask in
    let in_trap : Place = place.Stream c.args.p c.args.s part.InTrap in
    let register : Place = place.Stream c.args.p c.args.s part.TrapRegister in
    let retries : Place = place.Stream c.args.p c.args.s part.Retries in
    let status : Place = place.Stream c.args.p c.args.s part.Status in
    told_join w v (pc ∷ []) (codes ∷ mask ∷ in_trap ∷ register ∷ retries ∷ status ∷ []) c.args.found.now.items
    c.note_part.new.found.items last c.in_ok-note_part.ensures
    (told_join w v (codes ∷ []) (mask ∷ in_trap ∷ register ∷ retries ∷ status ∷ []) c.note_part.new.found.items
    c.note_part-2.new.found.items last c.in_ok-note_part-2.ensures
    (told_join w v (mask ∷ []) (in_trap ∷ register ∷ retries ∷ status ∷ []) c.note_part-2.new.found.items
    c.note_part-3.new.found.items last c.in_ok-note_part-3.ensures
    (told_join w v (in_trap ∷ []) (register ∷ retries ∷ status ∷ []) c.note_part-3.new.found.items
    c.note_part-4.new.found.items last c.in_ok-note_part-4.ensures
    (told_join w v (register ∷ []) (retries ∷ status ∷ []) c.note_part-4.new.found.items
    c.note_part-5.new.found.items last c.in_ok-note_part-5.ensures
    (told_join w v (retries ∷ []) (status ∷ []) c.note_part-5.new.found.items c.note_part-6.new.found.items last
    c.in_ok-note_part-6.ensures c.in_ok-note_part-7.ensures)))))
