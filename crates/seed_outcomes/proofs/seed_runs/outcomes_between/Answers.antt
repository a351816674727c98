use Rattle.std.proofs.Common.{◌≡◌, sym, subst, arith, List}
use Rattle.seed_outcomes.specs.SeedLists.{seeds_between}
use Rattle.seed_outcomes.specs.SeedRuns.{surveyed_program}
use Rattle.seed_outcomes.specs.Outcomes.{AreOutcomes}
use Rattle.seed_outcomes.specs.declared.outcomes.SeedOutcome.{SeedOutcome}
use Rattle.seed_outcomes.proofs.Surveyed.{none_yet, next_seed}
use Rattle.seed_outcomes.proofs.seed_runs.outcomes_between.Goals as goal

pub loop-place-init : goal.loop-place-init
loop-place-init g c =
    let p = surveyed_program c.args.surveyed.now in
    subst (λ (os : List SeedOutcome). AreOutcomes p (seeds_between c.args.first c.args.begin c.args.begin) os)
    (sym c.new-outcomes.ensures.items) (none_yet p c.args.first c.args.begin)

pub loop-place-preserved : goal.loop-place-preserved
loop-place-preserved g c =
    next_seed (surveyed_program c.args.surveyed.now) c.args.first c.args.begin c.loop-place.place
    c.loop-place.outcomes.items c.add_outcome.new.outcomes.items c.in_ok-outcome.outcome c.loop-place.auto.place
    (omega (arith, c.loop-place-test.true, c.ranges.end.fits)) c.loop-place.invariant c.in_ok-outcome.ensures.seed
    c.in_ok-outcome.ensures.runs c.in_ok-outcome.ensures.run c.in_ok-add_outcome.ensures

pub returns : goal.returns
returns g c =
    let whole : c.loop-place.place ≡ c.args.end = omega arith in
    subst
    (λ n. AreOutcomes
    (surveyed_program c.args.surveyed.now) (seeds_between c.args.first c.args.begin n) c.loop-place.outcomes.items)
    whole c.loop-place.invariant
