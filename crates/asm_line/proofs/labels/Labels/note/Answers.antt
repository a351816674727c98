use Rattle.std.proofs.Common.{◌∙◌, ap, unwrap_or, arith}
use Rattle.std.specs.HashMap.Entry.{map_with_value}
use Rattle.asm_line.specs.Labels.{places_of}
use Rattle.asm_line.proofs.Noted.{noted}
use Rattle.asm_line.proofs.labels.Labels.note.Goals as goal

pub returns-clause-takes : goal.returns-clause-takes
unfolding places_of
returns-clause-takes c =
    let e = c.in_ok-self in
    let v = c.or_insert.result.now in
    let is = noted (places_of c.args.self.now) (places_of (record { places = map_with_value e.field-0 v }))
    c.in-Some.name.now c.args.place v
    (c.or_insert.ensures.value ∙ ap (λ o. unwrap_or o c.args.place) e.ensures.value)
    (λ name. (e.ensures.update.0 v).0 (record { ref_ptr = (0, 0); now = name })) in
    λ name. grind (arith, is name)
