-- The rows so far, with those from the place on, are all; and so are the submissions that are missing.
use Rattle.std.proofs.Common.{◌≡◌, ◌++◌, drop}
use Rattle.class_results.specs.MergedTables.{rows_from, rows_by, missing_from, missing_by}
use Rattle.class_results.proofs.merged_tables.merged_table.Given as goal

abbrev pub invariant-loop-place : goal.invariant-loop-place
invariant-loop-place l =
    record {
      rows : l.rows.items ++ rows_from l.found l.place (drop l.place l.class) ≡ rows_by l.found l.class;
      missing : l.missing.items ++ missing_from l.found l.place (drop l.place l.class) ≡ missing_by l.found l.class;
    }
