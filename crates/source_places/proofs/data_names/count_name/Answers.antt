use Rattle.std.proofs.Common.{◌≡◌, ◌+◌, ◌∙◌, ap, unwrap_or, arith}
use Rattle.std.specs.HashMap.Entry.{map_with_value}
use Rattle.std.specs.Map.{lookup}
use Rattle.std.specs.Str.{bytes_eq}
use Rattle.source_places.specs.TimesSaid.{times_in}
use Rattle.source_places.proofs.NotedNames.{counted}
use Rattle.source_places.proofs.data_names.count_name.Goals as goal

pub overflow_add-times : goal.overflow_add-times
unfolding times_in
overflow_add-times c =
    let e = c.in_ok-times in
    let is : c.or_insert.result.now ≡ unwrap_or (lookup (λ k. bytes_eq c.args.name.now.name.now k.now) c.args.times.now.entries) 0 =
    c.or_insert.ensures.value ∙ ap (λ o. unwrap_or o 0) e.ensures.value in
    omega (arith, is, c.requires)

pub returns : goal.returns
unfolding times_in
returns c =
    let e = c.in_ok-times in
    let v = c.or_insert.result.now in
    let is = counted (λ q. lookup (λ k. bytes_eq q k.now) c.args.times.now.entries)
    (λ q. lookup (λ k. bytes_eq q k.now) (map_with_value e.field-0 (v + 1)).entries) c.args.name.now.name.now (v + 1)
    (ap (λ n. n + 1) (c.or_insert.ensures.value ∙ ap (λ o. unwrap_or o 0) e.ensures.value))
    (λ name. (e.ensures.update.0 (v + 1)).0 (record { ref_ptr = (0, 0); now = name })) in
    λ name. grind (arith, is name)
