use Rattle.std.proofs.Common.{◌∙◌, sym, refl, Some, true}
use Rattle.judgements.specs.Shown.{judged_within}
use Rattle.judgements.proofs.ReadCases.{shown_alike}
use Rattle.judgements.proofs.WhatWasRun.{by_both, by_search_after, by_seeds_before}
use Rattle.judgements.proofs.thorough.judged_thoroughly.Goals as goal

pub returns-then-not-is_open-clause-shown : goal.returns-then-not-is_open-clause-shown
returns-then-not-is_open-clause-shown g c = c.in_ok-sampled.ensures.shown (Some c.args.bounds)

pub returns-then-is_not_decided-clause-shown : goal.returns-then-is_not_decided-clause-shown
returns-then-is_not_decided-clause-shown g c =
    c.undecided.ensures.shown
    (judged_within (Some c.args.bounds) c.args.asked c.args.judged.image.now c.args.judged.required.now)
    (c.in_ok-found.ensures.left (c.is_not_decided.ensures.only c.if-is_not_decided.true))
    (c.in_ok-sampled.ensures.shown (Some c.args.bounds))

pub returns-clause-shown : goal.returns-clause-shown
returns-clause-shown g c =
    shown_alike (judged_within (Some c.args.bounds) c.args.asked c.args.judged.image.now c.args.judged.required.now)
    c.in_ok-found.found.judgement c.with_seeds.result c.with_seeds.ensures.kind c.with_seeds.ensures.reason
    c.with_seeds.ensures.ends (c.in_ok-found.ensures.shown c.args.asked)

pub returns-then-not-is_open-clause-run : goal.returns-then-not-is_open-clause-run
returns-then-not-is_open-clause-run g c =
    by_seeds_before (judged_within (Some c.args.bounds) c.args.asked c.args.judged.image.now c.args.judged.required.now)
    c.in_ok-sampled.sampled c.in_ok-sampled.ensures.known (sym c.is_open.ensures.is ∙ c.if-not-is_open.true)

pub returns-then-is_not_decided-clause-run : goal.returns-then-is_not_decided-clause-run
returns-then-is_not_decided-clause-run g c =
    let known = c.in_ok-found.ensures.known in
    by_both (judged_within (Some c.args.bounds) c.args.asked c.args.judged.image.now c.args.judged.required.now) true
    known.found c.in_ok-sampled.sampled c.in_ok-found.found.judgement c.undecided.result refl known.search known.by_it
    c.in_ok-sampled.ensures.known (λ before. sym c.is_open.ensures.is ∙ c.if-not-is_open.false) c.undecided.ensures.known
    c.undecided.ensures.kept c.undecided.ensures.left

pub returns-clause-run : goal.returns-clause-run
returns-clause-run g c =
    let known = c.in_ok-found.ensures.known in
    by_search_after (judged_within (Some c.args.bounds) c.args.asked c.args.judged.image.now c.args.judged.required.now)
    known.found c.in_ok-sampled.sampled c.in_ok-found.found.judgement c.with_seeds.result refl known.search known.by_it
    c.in_ok-sampled.ensures.known (sym c.is_open.ensures.is ∙ c.if-not-is_open.false) c.with_seeds.ensures.known
    c.with_seeds.ensures.kind c.with_seeds.ensures.reason c.with_seeds.ensures.ends
