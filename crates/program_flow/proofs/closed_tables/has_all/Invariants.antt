use Rattle.std.proofs.Common.{ℕ, ◌<◌, IsTrue}
use Rattle.program_flow.specs.Tables.{is_live_by}
use Rattle.program_flow.proofs.closed_tables.has_all.Given as goal

abbrev pub invariant-loop-live : goal.invariant-loop-live
invariant-loop-live l = (r : ℕ) → r < l.live-index → IsTrue (is_live_by l.row r)
