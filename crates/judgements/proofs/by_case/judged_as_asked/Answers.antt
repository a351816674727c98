use Rattle.std.proofs.Common.{ap}
use Rattle.judgements.specs.Shown.{judged_as, limits_of}
use Rattle.judgements.proofs.WhatWasRun.{by_seeds_alone}
use Rattle.judgements.proofs.by_case.judged_as_asked.Goals as goal

pub returns-in_ok-judged_by_seeds-in-None-clause-shown : goal.returns-in_ok-judged_by_seeds-in-None-clause-shown
returns-in_ok-judged_by_seeds-in-None-clause-shown g c =
    c.in_ok-judged_by_seeds-in-None.ensures.shown c.args.asked.explored

pub returns-in_ok-judged_by_seeds-in-None-clause-run : goal.returns-in_ok-judged_by_seeds-in-None-clause-run
returns-in_ok-judged_by_seeds-in-None-clause-run g c =
    by_seeds_alone (judged_as c.args.asked c.args.judged.image.now c.args.judged.required.now) c.args.asked.is_thorough
    c.in_ok-judged_by_seeds-in-None.field-0 (ap limits_of c.in-None.is) c.in_ok-judged_by_seeds-in-None.ensures.known
