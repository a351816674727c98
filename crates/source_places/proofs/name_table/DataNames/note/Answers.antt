use Rattle.std.proofs.Common.{◌∙◌, ap, unwrap_or, arith}
use Rattle.std.specs.HashMap.Entry.{map_with_value}
use Rattle.std.specs.Map.{lookup}
use Rattle.std.specs.Str.{bytes_eq}
use Rattle.source_places.specs.NameTables.{name_in_table}
use Rattle.source_places.proofs.NotedNames.{noted}
use Rattle.source_places.proofs.name_table.DataNames.note.Goals as goal

pub returns : goal.returns
unfolding name_in_table
returns c =
    let e = c.in_ok-self in
    let v = c.or_insert.result.now in
    let is = noted (λ q. lookup (λ k. bytes_eq q k.now) c.args.self.now.by_name.entries)
    (λ q. lookup (λ k. bytes_eq q k.now) (map_with_value e.field-0 v).entries) c.args.name.now v
    (c.or_insert.ensures.value ∙ ap (λ o. unwrap_or o c.args.name.now) e.ensures.value)
    (λ name. (e.ensures.update.0 v).0 (record { ref_ptr = (0, 0); now = name })) in
    λ name. grind (arith, is name)
