use Rattle.std.proofs.Common.{subst}
use Rattle.processor.specs.World.{run}
use Rattle.schedule_makers.specs.Made.{IsEnd}
use Rattle.seed_verdicts.proofs.Worst.{broken, out_of_steps}
use Rattle.seed_verdicts.proofs.seed_runs.way_flaw.Goals as goal

pub returns-in-Some-clause-told : goal.returns-in-Some-clause-told
returns-in-Some-clause-told g c =
    let j = c.args.judging.now in
    broken j.image.now c.args.steps.now j.expected.now j.claims.now c.in-Some.broken.taken c.in-Some.broken.claim
    c.requires.flawless (rw c.in-Some.is at c.in_ok-broken.ensures.told)

pub returns-in-OutOfSteps-clause-told : goal.returns-in-OutOfSteps-clause-told
returns-in-OutOfSteps-clause-told g c =
    let j = c.args.judging.now in
    let w = run j.image.now c.args.steps.now in
    let bound = subst (IsEnd j.image.now w) c.in-OutOfSteps.is c.requires.end in
    out_of_steps j.image.now c.args.steps.now j.expected.now j.claims.now c.requires.flawless
    (rw c.in_default.is at c.in_ok-broken.ensures.told) bound.0 bound.1
