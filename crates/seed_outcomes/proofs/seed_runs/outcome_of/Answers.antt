use Rattle.std.proofs.Common.{rules, ◌≡◌, subst, length}
use Rattle.machine.specs.MachineValue.{MachineValue}
use Rattle.schedule_makers.specs.Seeds.{rule_of_seed}
use Rattle.schedule_makers.specs.Made.{IsMade}
use Rattle.seed_outcomes.proofs.seed_runs.outcome_of.Goals as goal

pub returns-clause-run : goal.returns-clause-run
returns-clause-run g c =
    let s = c.args.surveyed.now in
    let made = c.in_ok-made.made in
    let count : c.len.result ≡ length made.steps.items = search rules in
    record {
      machine = c.seeded.new.machine;
      schedule = made.steps.items;
      end = made.end;
      made =
          subst
          (λ (m : MachineValue). IsMade
          (rule_of_seed c.args.seed s.fair_steps) m c.seeded.new.machine s.most made.steps.items made.end)
          c.in_ok-machine.ensures c.in_ok-made.ensures.made;
      count = count;
      kind = rw c.ends.ensures at c.in_ok-end.ensures.kind;
      missed = rw c.ends.ensures at c.in_ok-end.ensures.missed;
      broken = rw (c.claims.ensures, c.deref.ensures.value) at c.in_ok-broken.ensures;
      trapped = rw c.ends.ensures at c.in_ok-end.ensures.trapped;
      state = c.in_ok-end.ensures.state;
    }
