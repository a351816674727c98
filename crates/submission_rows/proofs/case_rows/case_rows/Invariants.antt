use Rattle.std.proofs.Common.{◌≡◌, ◌++◌, length}
use Rattle.submission_rows.specs.Rows.{heads_in, heads_of}
use Rattle.submission_rows.proofs.case_rows.case_rows.Given as goal

-- the rows that were made, and those of the judgements to come
abbrev pub invariant-loop-judged : goal.invariant-loop-judged
invariant-loop-judged l = heads_in l.rows.items ++ heads_of l.cases l.judged ≡ heads_of l.grading.cases.now l.judgements

abbrev pub decreases-loop-judged : goal.decreases-loop-judged
decreases-loop-judged l = length l.judged
