-- What is left gives the worst of all.
use Rattle.std.proofs.Common.{◌≡◌, drop}
use Rattle.end_kinds.specs.declared.statuses.Status.TheVariants as status
use Rattle.grade_rows.specs.Judgements.ProgramSearches.Statuses.{worst}
use Rattle.grade_reports.specs.RowStatuses.{statuses_of}
use Rattle.grade_reports.proofs.row_statuses.worst_status.Given as goal

abbrev pub invariant-loop-row : goal.invariant-loop-row
invariant-loop-row l = worst l.status (statuses_of (drop l.row-index l.rows)) ≡ worst status.Done (statuses_of l.rows)
