use Rattle.std.proofs.Common.{ℕ, List, slice_get, ap, ◌∙◌, sym, arith}
use Rattle.std.proofs.lemmas.Option.{slice_get_past}
use Rattle.world_keys.specs.RowLists.{lists_from}
use Rattle.world_keys.proofs.RowLists.{length_lists}
use Rattle.world_keys.proofs.row_lists.RowLists.list.Goals as goal

pub returns-then-place-len : goal.returns-then-place-len
returns-then-place-len c =
    let ls = lists_from 0 c.self.inside.ends.items c.self.inside.numbers.items in
    sym (ap (λ (t : List (List ℕ)). slice_get t c.args.place) (sym c.self.view_is)
    ∙ slice_get_past ls c.args.place (omega (
      arith,
      length_lists 0 c.self.inside.ends.items c.self.inside.numbers.items,
      c.len.ensures,
      c.if-place-len.true,
    )))
