use Rattle.std.proofs.Common.{ℕ, ◌<◌, ◌⊎◌, IsTrue}
use Rattle.program_flow.specs.Operands.{registers_written}
use Rattle.program_flow.specs.Flow.{IsOneOf}
use Rattle.program_flow.specs.Tables.{is_live_by}
use Rattle.program_flow.proofs.closed_tables.covers.Given as goal

abbrev pub invariant-loop-register : goal.invariant-loop-register
invariant-loop-register l =
    (r : ℕ) → r < l.register → IsTrue (is_live_by l.to r)
    → IsTrue (is_live_by l.row r) ⊎ IsOneOf (registers_written l.insn) r
