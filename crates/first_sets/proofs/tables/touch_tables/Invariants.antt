use Rattle.std.proofs.Common.{ℕ}
use Rattle.touched_words.specs.ClosedTables.{AreAmong, IsClosedTable}
use Rattle.first_sets.specs.ApartSets.{table_at}
use Rattle.first_sets.proofs.tables.touch_tables.Given as goal

abbrev pub invariant-loop-p : goal.invariant-loop-p
invariant-loop-p l =
    (p : ℕ) → IsClosedTable l.image.profile l.image.program (table_at l.tables.items p)
    × AreAmong (table_at l.tables.items p).unread l.unread
