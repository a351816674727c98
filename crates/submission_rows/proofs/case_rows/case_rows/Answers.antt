use Rattle.submission_rows.specs.Rows.{heads_in, heads_of}
use Rattle.submission_rows.proofs.Heads.{at_end}
use Rattle.submission_rows.proofs.case_rows.case_rows.Goals as goal

pub returns : goal.returns
returns c = at_end c.loop-judged.cases.now c.loop-judged.judged.now (heads_in c.loop-judged.rows.items)
    (heads_of c.args.grading.now.cases.now c.args.judgements.now) c.in_default.len_below c.loop-judged.invariant
