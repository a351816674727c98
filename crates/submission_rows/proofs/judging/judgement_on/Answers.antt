use Rattle.std.proofs.Common.{ℕ, List, subst}
use Rattle.grade_rows.specs.Judgements.Verdicts.{AreRightCases}
use Rattle.submission_rows.proofs.judging.judgement_on.Goals as goal

pub returns-in-Ok-clause-right : goal.returns-in-Ok-clause-right
returns-in-Ok-clause-right g c = λ right. record {
  asked = c.asked.result;
  as_asked = c.asked.ensures.requested;
  right =
      subst (λ (text : List ℕ). AreRightCases c.asked.result c.args.program.now.image text c.args.grading.now.cases.now)
      c.deref.ensures.value (c.in-Ok.ensures.right right);
}

pub returns-in-Ok-clause-done : goal.returns-in-Ok-clause-done
returns-in-Ok-clause-done g c = λ done. record {
  asked = c.asked.result;
  as_asked = c.asked.ensures.requested;
  right =
      subst (λ (text : List ℕ). AreRightCases c.asked.result c.args.program.now.image text c.args.grading.now.cases.now)
      c.deref.ensures.value (c.in-Ok.ensures.done done);
}
