-- The exit statuses of rows.
use Rattle.std.specs.Prelude.{List, map}
use Rattle.end_kinds.specs.declared.statuses.Status.{Status}
use Rattle.grade_rows.specs.declared.rows.GradeRow.{GradeRow}

-- in their order
abbrev pub statuses_of : List GradeRow → List Status
statuses_of rows = map (λ (r : GradeRow). r.status) rows
