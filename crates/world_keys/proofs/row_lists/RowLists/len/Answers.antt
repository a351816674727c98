use Rattle.std.proofs.Common.{ℕ, List, length, ap, arith}
use Rattle.world_keys.proofs.RowLists.{length_lists}
use Rattle.world_keys.proofs.row_lists.RowLists.len.Goals as goal

pub returns : goal.returns
returns c =
    omega (
      arith,
      c.len.ensures,
      length_lists 0 c.self.inside.ends.items c.self.inside.numbers.items,
      ap (λ (t : List (List ℕ)). length t) c.self.view_is,
    )
