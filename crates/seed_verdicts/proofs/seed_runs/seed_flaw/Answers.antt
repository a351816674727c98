use Rattle.std.proofs.Common.{sym, ap, ◌∙◌, subst, Option, List}
use Rattle.std.proofs.lemmas.Result.{IfOk-weaker}
use Rattle.image_file.specs.ImageValue.{ImageValue}
use Rattle.processor.specs.World.{run}
use Rattle.machine.specs.MachineValue.{MachineValue}
use Rattle.schedule_makers.specs.Seeds.{rule_of_seed}
use Rattle.schedule_makers.specs.Made.{IsMade}
use Rattle.processor.specs.declared.steps.Step.{Step}
use Rattle.seed_verdicts.specs.RunFlaws.{IsWorst, IsTold}
use Rattle.seed_verdicts.specs.Seeds.{IsSeedTold}
use Rattle.seed_verdicts.specs.declared.run_flaw.RunFlaw.{RunFlaw}
use Rattle.seed_verdicts.proofs.seed_runs.seed_flaw.Goals as goal

pub returns-in-Some-clause-told : goal.returns-in-Some-clause-told
returns-in-Some-clause-told g c =
    let j = c.args.judging.now in
    let new = c.seeded.new.machine in
    let ts = c.in_ok-made.made.steps.items in
    let made = subst
    (λ (m : MachineValue). IsMade (rule_of_seed c.args.seed j.fair) m new j.most ts c.in_ok-made.made.end)
    c.in_ok-machine.ensures.is c.in_ok-made.ensures.made in
    record {
      machine = new;
      schedule = ts;
      end = c.in_ok-made.made.end;
      made = made;
      shows =
          subst (λ (i : ImageValue). IsWorst i ts j.expected.now j.claims.now c.in-Some.flaw) made.image
          (c.in-Some.ensures ts j.claims.now (ap (λ (i : ImageValue). run i ts) made.image ∙ sym made.world));
    }

pub returns-clause-told : goal.returns-clause-told
returns-clause-told g c =
    let j = c.args.judging.now in
    let new = c.seeded.new.machine in
    let ts = c.in_ok-made.made.steps.items in
    let made = subst
    (λ (m : MachineValue). IsMade (rule_of_seed c.args.seed j.fair) m new j.most ts c.in_ok-made.made.end)
    c.in_ok-machine.ensures.is c.in_ok-made.ensures.made in
    IfOk-weaker c.way_flaw.result
    (λ (told : Option RunFlaw). IsTold j.image.now c.deref.result.now j.expected.now j.claims.now told)
    (λ told. IsSeedTold j.image.now j.expected.now j.claims.now j.fair j.most c.args.seed told)
    (λ told shows. record {
      machine = new;
      schedule = ts;
      end = c.in_ok-made.made.end;
      made = made;
      shows =
          subst (λ (steps : List Step). IsTold j.image.now steps j.expected.now j.claims.now told) c.deref.ensures.value
          shows;
    }) c.way_flaw.ensures.told
