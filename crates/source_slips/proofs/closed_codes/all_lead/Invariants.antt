use Rattle.std.proofs.Common.{ℕ, ◌<◌}
use Rattle.source_slips.specs.Made.{most_at, LeadsWhere}
use Rattle.source_slips.proofs.closed_codes.all_lead.Given as goal

abbrev pub invariant-loop-place : goal.invariant-loop-place
invariant-loop-place l = (k : ℕ) → k < l.place → LeadsWhere l.image l.table l.anywhere k (most_at l.table k)
