use Rattle.std.proofs.Common.{subst}
use Rattle.machine.specs.MachineValue.{MachineValue}
use Rattle.schedule_makers.specs.Seeds.{rule_of_seed}
use Rattle.schedule_makers.specs.FairLengths.{IsFairLength}
use Rattle.schedule_makers.specs.Made.{IsMade}
use Rattle.judgements.proofs.by_seeds.shown_run.Goals as goal

pub returns-clause-end : goal.returns-clause-end
returns-clause-end g c =
    let fair = c.in_ok-fair_steps.fair_steps in
    let machine = c.seeded.new.machine in
    let schedule = c.in_ok-seeded.field-0 in
    let rule = rule_of_seed c.args.found.seed fair in
    record {
      fair = fair;
      is_fair = subst (λ (m : MachineValue). IsFairLength m fair) c.in_ok-machine.ensures c.in_ok-fair_steps.ensures;
      machine = machine;
      schedule = schedule.steps.items;
      end = schedule.end;
      made =
          subst (λ (m : MachineValue). IsMade rule m machine c.args.asked.most schedule.steps.items schedule.end)
          c.in_ok-machine.ensures c.in_ok-seeded.ensures.made;
      kind = rw c.ends.ensures at c.in_ok-judged_end.ensures.kind;
      missed = rw c.ends.ensures at c.in_ok-judged_end.ensures.missed;
      trapped = rw c.ends.ensures at c.in_ok-judged_end.ensures.trapped;
      state = c.in_ok-judged_end.ensures.state;
    }
