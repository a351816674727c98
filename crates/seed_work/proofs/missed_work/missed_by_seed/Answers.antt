use Rattle.std.proofs.Common.{◌∙◌, ap, refl, subst, sym}
use Rattle.machine.specs.MachineValue.{MachineValue}
use Rattle.schedule_makers.specs.Seeds.{rule_of_seed}
use Rattle.schedule_makers.specs.Made.{IsMade}
use Rattle.work_rules.specs.Runs.{first_missed_by}
use Rattle.seed_work.proofs.missed_work.missed_by_seed.Goals as goal

pub returns-in-Some-clause-known : goal.returns-in-Some-clause-known
returns-in-Some-clause-known g c =
    let new = c.seeded.new.machine in
    let ts = c.in_ok-made.made.steps.items in (
      refl,
      record {
        machine = new;
        schedule = ts;
        made =
            subst
            (λ (m : MachineValue). IsMade (rule_of_seed c.args.seed c.args.working.now.fair) m new c.args.working.now.most ts c.in_ok-made.made.end)
            c.in_ok-machine.ensures.is c.in_ok-made.ensures.made;
        is =
            sym c.in-Some.is ∙ c.in_ok-rule.ensures.missed
            ∙ ap (λ us. first_missed_by c.args.working.now.image.now us c.args.working.now.rules.now) c.deref.ensures.value;
      },
    )

pub returns-clause-known : goal.returns-clause-known
returns-clause-known g c =
    let new = c.seeded.new.machine in
    let ts = c.in_ok-made.made.steps.items in (
      c.in_ok-made.made.end,
      record {
        machine = new;
        schedule = ts;
        made =
            subst
            (λ (m : MachineValue). IsMade (rule_of_seed c.args.seed c.args.working.now.fair) m new c.args.working.now.most ts c.in_ok-made.made.end)
            c.in_ok-machine.ensures.is c.in_ok-made.ensures.made;
        is =
            sym c.in-None.is ∙ c.in_ok-rule.ensures.missed
            ∙ ap (λ us. first_missed_by c.args.working.now.image.now us c.args.working.now.rules.now) c.deref.ensures.value;
      },
    )
