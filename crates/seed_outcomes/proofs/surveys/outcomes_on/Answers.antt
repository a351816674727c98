use Rattle.std.proofs.Common.{◌≡◌, ◌+◌, ◌≤◌, sym, subst, arith, List, []}
use Rattle.machine.specs.MachineValue.{MachineValue}
use Rattle.schedule_makers.specs.FairLengths.{IsFairLength}
use Rattle.seed_outcomes.specs.SeedLists.{seeds_between}
use Rattle.seed_outcomes.specs.SeedRuns.{SurveyedProgram}
use Rattle.seed_outcomes.specs.Outcomes.{AreOutcomes}
use Rattle.seed_outcomes.specs.Parts.{all_outcomes}
use Rattle.seed_outcomes.specs.declared.outcomes.SeedOutcome.{SeedOutcome}
use Rattle.seed_outcomes.proofs.Added.{no_outcomes}
use Rattle.seed_outcomes.proofs.Surveyed.{next_seeds, all_counted}
use Rattle.seed_outcomes.proofs.surveys.outcomes_on.Goals as goal

pub loop-begin-init : goal.loop-begin-init
loop-begin-init g c =
    let p : SurveyedProgram = record {
      image = c.args.image.now;
      expected = c.args.required.now.ends.items;
      claims = c.args.required.now.claims.items;
      fair = c.in_ok-fair_steps.fair_steps;
      most = c.args.seeds.most;
    } in
    record {
      within = omega arith;
      outcomes =
          subst (λ (os : List SeedOutcome). AreOutcomes p [] os) (sym c.new-outcomes.ensures.items) (no_outcomes p);
    }

pub loop-begin-preserved : goal.loop-begin-preserved
loop-begin-preserved g c =
    let p : SurveyedProgram = record {
      image = c.args.image.now;
      expected = c.args.required.now.ends.items;
      claims = c.args.required.now.claims.items;
      fair = c.in_ok-fair_steps.fair_steps;
      most = c.args.seeds.most;
    } in
    let end = c.loop-begin.begin + c.min.result in
    let least = c.min.ensures in
    let within : end ≤ c.args.seeds.count = omega (arith, least, c.loop-begin-test.true) in
    record {
      within = within;
      outcomes =
          next_seeds p c.args.seeds.first c.loop-begin.begin end c.loop-begin.outcomes.items
          (all_outcomes c.in_ok-found.found.items) c.add_parts.new.outcomes.items (omega arith) (omega arith)
          c.loop-begin.invariant.outcomes c.in_ok-found.ensures c.in_ok-add_parts.ensures;
    }

pub returns-clause-runs : goal.returns-clause-runs
returns-clause-runs g c =
    let p : SurveyedProgram = record {
      image = c.args.image.now;
      expected = c.args.required.now.ends.items;
      claims = c.args.required.now.claims.items;
      fair = c.in_ok-fair_steps.fair_steps;
      most = c.args.seeds.most;
    } in
    let past = c.loop-begin-test.false in
    let most = c.loop-begin.invariant.within in
    let whole : c.loop-begin.begin ≡ c.args.seeds.count = omega (arith, past, most) in
    all_counted p c.args.seeds.first c.args.seeds.count c.loop-begin.outcomes.items
    (subst (λ n. AreOutcomes p (seeds_between c.args.seeds.first 0 n) c.loop-begin.outcomes.items) whole
    c.loop-begin.invariant.outcomes)

pub returns-clause-outcomes : goal.returns-clause-outcomes
returns-clause-outcomes g c =
    let p : SurveyedProgram = record {
      image = c.args.image.now;
      expected = c.args.required.now.ends.items;
      claims = c.args.required.now.claims.items;
      fair = c.in_ok-fair_steps.fair_steps;
      most = c.args.seeds.most;
    } in
    let past = c.loop-begin-test.false in
    let most = c.loop-begin.invariant.within in
    let whole : c.loop-begin.begin ≡ c.args.seeds.count = omega (arith, past, most) in
    record {
      fair = c.in_ok-fair_steps.fair_steps;
      is_fair =
          subst (λ (m : MachineValue). IsFairLength m c.in_ok-fair_steps.fair_steps) c.in_ok-machine.ensures
          c.in_ok-fair_steps.ensures;
      outcomes =
          subst (λ n. AreOutcomes p (seeds_between c.args.seeds.first 0 n) c.loop-begin.outcomes.items) whole
          c.loop-begin.invariant.outcomes;
    }
