use Rattle.std.proofs.Common.{ℕ, ◌<◌, IsTrue}
use Rattle.program_flow.specs.Tables.{is_live_by, is_named_by}
use Rattle.program_flow.proofs.closed_tables.has_named.Given as goal

abbrev pub invariant-loop-register : goal.invariant-loop-register
invariant-loop-register l =
    (r : ℕ) → r < l.register → IsTrue (is_named_by l.names r) → IsTrue (is_live_by l.row r)
