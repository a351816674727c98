use Rattle.std.proofs.Common.{◌≡◌, ◌∙◌, ◌++◌, ◌∷◌, [], List, Some, sym, ap, subst}
use Rattle.atomic_table.specs.Table.{opening}
use Rattle.image_file.specs.ImageValue.{ImageValue}
use Rattle.memory_lock.specs.Seats.{Slot, first_view}
use Rattle.memory_lock.specs.Tickets.{IsByTickets}
use Rattle.memory_lock.proofs.Keeping.{starts}
use Rattle.memory_lock.proofs.turns.tables.open_table.Goals as goal

pub new-requires : goal.new-requires
new-requires c =
    let m = c.args.memory in
    let all = c.push_reserved.ensures.items ∙ ap (λ l. l ++ Some m ∷ []) c.in-Ok.ensures.items in
    let P : ImageValue × List Slot → Type 0 = λ x. IsByTickets x.0 (opening (0 ∷ 0 ∷ []) x.1 first_view) in
    let image : c.image-image.result.now ≡ m.image = c.image-image.ensures in
    subst P (λ i. (sym image i, sym all i)) (starts m c.requires)
