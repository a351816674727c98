use Rattle.judgements.specs.Known.{has_work}
use Rattle.judgements.specs.Shown.{judged_as}
use Rattle.judgements.proofs.WhatWasRun.{by_rule}
use Rattle.judgements.proofs.by_case.judged_program.Goals as goal

pub returns-in-Some-clause-run : goal.returns-in-Some-clause-run
returns-in-Some-clause-run g c =
    by_rule (judged_as c.args.asked c.args.judged.image.now c.args.judged.required.now) c.args.asked.is_thorough
    (has_work c.args.judged.required.now) c.plain.result c.in-Some.rule c.plain.ensures.reason c.plain.ensures.known
