use Rattle.std.proofs.Common.{◌≡◌, ◌∙◌, ap, sym, Bool, false, length, Some}
use Rattle.std.specs.Prelude.{not, ◌==◌}
use Rattle.judgements.specs.Known.{comes_with_seeds, has_work}
use Rattle.end_kinds.specs.Statuses.{badness}
use Rattle.judgements.specs.Shown.{judged_as}
use Rattle.judgements.specs.Statuses.{badness_of_run}
use Rattle.judgements.proofs.Statuses.{no_bad_run}
use Rattle.judgements.proofs.WhatWasRun.{by_all_work, by_work, without_work}
use Rattle.judgements.proofs.Shown.{left_by_all, same_seeds}
use Rattle.judgements.proofs.by_work.with_work.Goals as goal

pub returns-then-is_empty-clause-run : goal.returns-then-is_empty-clause-run
returns-then-is_empty-clause-run g c = λ shown run.
    let none : false ≡ has_work c.args.judged.required.now =
    sym (ap (λ (b : Bool). not b) (ap (λ l. length l == 0) (sym c.work.ensures) ∙ sym c.is_empty.ensures ∙ c.if-is_empty.true)) in
    without_work (judged_as c.args.asked c.args.judged.image.now c.args.judged.required.now) c.args.asked.is_thorough
    (has_work c.args.judged.required.now) c.args.judgement run
    (λ first. ap (λ w. comes_with_seeds first w c.args.judgement.kind c.args.judgement.reason) none)

pub returns-then-not-is_open-clause-run : goal.returns-then-not-is_open-clause-run
returns-then-not-is_open-clause-run g c = λ shown run.
    let p = judged_as c.args.asked c.args.judged.image.now c.args.judged.required.now in
    let works = has_work c.args.judged.required.now in
    without_work p c.args.asked.is_thorough works c.args.judgement run
    (same_seeds p c.args.judgement.ends.items c.args.judgement.kind c.args.judgement.reason works
    (sym c.is_open.ensures.is ∙ c.if-not-is_open.true) shown)

pub returns-in-Some-clause-run : goal.returns-in-Some-clause-run
returns-in-Some-clause-run g c = λ shown run.
    let p = judged_as c.args.asked c.args.judged.image.now c.args.judged.required.now in
    by_work p c.args.asked.is_thorough (has_work c.args.judged.required.now) c.args.judgement c.judged_by_work.result
    c.in-Some.missed run
    (left_by_all p c.args.judgement.ends.items c.args.judgement.kind c.args.judgement.reason
    (sym c.is_open.ensures.is ∙ c.if-not-is_open.false) shown)
    c.judged_by_work.ensures.reason
    (c.judged_by_work.ensures.known
    ∙ ap (λ n. record c.args.judgement.known { seeds = Some n }) c.tried_up_to-tried.ensures)

pub returns-in-None-clause-run : goal.returns-in-None-clause-run
returns-in-None-clause-run g c = λ shown run.
    let p = judged_as c.args.asked c.args.judged.image.now c.args.judged.required.now in
    by_all_work p c.args.asked.is_thorough c.args.judgement c.with_seeds.result run
    (left_by_all p c.args.judgement.ends.items c.args.judgement.kind c.args.judgement.reason
    (sym c.is_open.ensures.is ∙ c.if-not-is_open.false) shown)
    (ap (λ (b : Bool). not b) (ap (λ l. length l == 0) (sym c.work.ensures) ∙ sym c.is_empty.ensures ∙ c.if-is_empty.false))
    (rw (c.work-2.ensures, c.in-None.is) at c.in_ok-missed.ensures) c.with_seeds.ensures.known c.with_seeds.ensures.kind c.with_seeds.ensures.reason c.with_seeds.ensures.ends

pub returns-in-Some-clause-status : goal.returns-in-Some-clause-status
returns-in-Some-clause-status g c = λ shown before unsearched uncounted.
    let p = judged_as c.args.asked c.args.judged.image.now c.args.judged.required.now in
    let all =
    left_by_all p c.args.judgement.ends.items c.args.judgement.kind c.args.judgement.reason
    (sym c.is_open.ensures.is ∙ c.if-not-is_open.false) shown in
    ap badness c.judged_by_work.ensures.status ∙ before unsearched uncounted
    ∙ no_bad_run c.args.judgement.reason all ∙ ap badness_of_run (sym c.judged_by_work.ensures.reason)
