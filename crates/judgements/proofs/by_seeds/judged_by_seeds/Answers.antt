use Rattle.judgements.specs.Cases.{seeds_of}
use Rattle.judgements.specs.Shown.{judged_within}
use Rattle.judgements.proofs.WhatWasRun.{runs_alike}
use Rattle.judgements.proofs.by_seeds.judged_by_seeds.Goals as goal

pub returns-clause-shown : goal.returns-clause-shown
returns-clause-shown g c = λ explored.
    c.with_outcomes.ensures.shown (judged_within explored c.args.asked c.args.image.now c.args.required.now)
    (c.in_ok-judgement.ensures.shown explored)

pub returns-clause-known : goal.returns-clause-known
returns-clause-known g c =
    runs_alike c.args.image.now c.args.required.now (seeds_of c.args.asked) c.in_ok-judgement.judgement
    c.with_outcomes.result c.with_outcomes.ensures.kind c.with_outcomes.ensures.known c.with_outcomes.ensures.reason
    c.in_ok-judgement.ensures.known
