use Rattle.std.proofs.Common.{List, subst}
use Rattle.processor.specs.declared.steps.Step.{Step}
use Rattle.machine.specs.MachineValue.{MachineValue}
use Rattle.schedule_makers.specs.Seeds.{rule_of_seed}
use Rattle.schedule_makers.specs.Made.{IsMade}
use Rattle.schedule_verdicts.specs.ShownClaims.{IsShownOnTheWay, IsUnshownOnTheWay}
use Rattle.seed_verdicts.proofs.shown_claims.is_shown_by_seed.Goals as goal

pub returns-clause-shown : goal.returns-clause-shown
returns-clause-shown g c = λ yes.
    let new = c.seeded.new.machine in
    let ts = c.in_ok-made.made.steps.items in
    record {
      machine = new;
      schedule = ts;
      end = c.in_ok-made.made.end;
      made =
          subst
          (λ (m : MachineValue). IsMade (rule_of_seed c.args.seed c.args.fair) m new c.args.most ts c.in_ok-made.made.end)
          c.in_ok-machine.ensures.is c.in_ok-made.ensures.made;
      shown =
          subst (λ (us : List Step). IsShownOnTheWay c.args.image.now us c.args.claim.now) c.deref.ensures.value
          (c.in_ok-is_shown.ensures.shown yes);
    }

pub returns-clause-unshown : goal.returns-clause-unshown
returns-clause-unshown g c = λ no.
    let new = c.seeded.new.machine in
    let ts = c.in_ok-made.made.steps.items in
    record {
      machine = new;
      schedule = ts;
      end = c.in_ok-made.made.end;
      made =
          subst
          (λ (m : MachineValue). IsMade (rule_of_seed c.args.seed c.args.fair) m new c.args.most ts c.in_ok-made.made.end)
          c.in_ok-machine.ensures.is c.in_ok-made.ensures.made;
      unshown =
          subst (λ (us : List Step). IsUnshownOnTheWay c.args.image.now us c.args.claim.now) c.deref.ensures.value
          (c.in_ok-is_shown.ensures.unshown no);
    }
