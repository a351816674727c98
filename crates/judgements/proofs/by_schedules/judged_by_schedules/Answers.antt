use Rattle.std.proofs.Common.{◌∙◌, sym, refl, Some, false}
use Rattle.judgements.specs.Shown.{judged_within}
use Rattle.judgements.proofs.WhatWasRun.{by_both, by_search_alone}
use Rattle.judgements.proofs.by_schedules.judged_by_schedules.Goals as goal

pub returns-then-is_not_decided-clause-shown : goal.returns-then-is_not_decided-clause-shown
returns-then-is_not_decided-clause-shown g c =
    c.undecided.ensures.shown
    (judged_within (Some c.args.bounds) c.args.asked c.args.judged.image.now c.args.judged.required.now)
    (c.in_ok-searched.ensures.left (c.is_not_decided.ensures.only c.if-is_not_decided.true))
    (c.in_ok-sampled.ensures.shown (Some c.args.bounds))

pub returns-clause-shown : goal.returns-clause-shown
returns-clause-shown g c = c.in_ok-searched.ensures.shown c.args.asked

pub returns-then-is_not_decided-clause-run : goal.returns-then-is_not_decided-clause-run
returns-then-is_not_decided-clause-run g c =
    let known = c.in_ok-searched.ensures.known in
    by_both (judged_within (Some c.args.bounds) c.args.asked c.args.judged.image.now c.args.judged.required.now) false
    known.found c.in_ok-sampled.sampled c.in_ok-searched.searched.judgement c.undecided.result refl known.search known.by_it
    c.in_ok-sampled.ensures.known (λ before. absurd cc) c.undecided.ensures.known c.undecided.ensures.kept
    c.undecided.ensures.left

pub returns-clause-run : goal.returns-clause-run
returns-clause-run g c =
    let known = c.in_ok-searched.ensures.known in
    by_search_alone (judged_within (Some c.args.bounds) c.args.asked c.args.judged.image.now c.args.judged.required.now)
    known.found c.in_ok-searched.searched.judgement refl known.search known.by_it
    (sym c.is_not_decided.ensures.undecided ∙ c.if-is_not_decided.false)
