use Rattle.std.proofs.Common.{ℕ, ◌<◌, IsTrue}
use Rattle.program_flow.specs.Codes.{CameFrom}
use Rattle.program_flow.specs.Tables.{is_live_by}
use Rattle.program_flow.proofs.closed_codes.covers_codes.Given as goal

abbrev pub invariant-loop-code : goal.invariant-loop-code
invariant-loop-code l =
    (c : ℕ) → c < l.code → IsTrue (is_live_by l.to c) → CameFrom l.makes (λ d. IsTrue (is_live_by l.row d)) c
