use Rattle.std.proofs.Common.{sym, ◌∙◌, lit<, rules}
use Rattle.schedule_makers.proofs.AllStuck.{listed_runs}
use Rattle.schedule_makers.proofs.Going.{IsSeenStep, gone_vain, gone_on, told_vain, told_same, able_after, none_went}
use Rattle.schedule_makers.proofs.Going.{listed_after, some_after}
use Rattle.schedule_makers.proofs.advancing.advance.Goals as goal

pub can_go_on-requires : goal.can_go_on-requires
can_go_on-requires g c =
    let old = c.args.machine.now in
    let new = c.step-outcome.new.self in
    let step : IsSeenStep g.row.S old new c.args.step c.step-outcome.result = record {
      machine = c.look-before.ensures.kept;
      runs = listed_runs c.args.machine.now.world c.args.running.now c.args.step c.requires.listed c.requires.one;
      world = c.step-outcome.ensures.world;
      image = c.step-outcome.ensures.image;
    } in
    let told = told_vain g.row.S old new c.args.step c.step-outcome.result c.look-before.result c.look-after.result
    c.is_in_vain.result c.look-before.ensures.is c.look-after.ensures.is c.is_in_vain.ensures in
    let vain = sym told ∙ c.if-is_in_vain.true in
    let o = c.step-outcome.result in (
      lit< tt,
      (
        listed_after g.row.S old new c.args.step o c.args.running.now step vain c.requires.listed,
        (
          some_after g.row.S old new c.args.step o step vain,
          able_after g.row.S old new c.args.step o c.args.is_able step vain c.requires.able,
        ),
      ),
    )

pub returns-then-not-can_go_on-clause-none : goal.returns-then-not-can_go_on-clause-none
returns-then-not-can_go_on-clause-none g c =
    let old = c.args.machine.now in
    let new = c.step-outcome.new.self in
    let step : IsSeenStep g.row.S old new c.args.step c.step-outcome.result = record {
      machine = c.look-before.ensures.kept;
      runs = listed_runs c.args.machine.now.world c.args.running.now c.args.step c.requires.listed c.requires.one;
      world = c.step-outcome.ensures.world;
      image = c.step-outcome.ensures.image;
    } in
    let told = told_vain g.row.S old new c.args.step c.step-outcome.result c.look-before.result c.look-after.result
    c.is_in_vain.result c.look-before.ensures.is c.look-after.ensures.is c.is_in_vain.ensures in
    none_went g.row.S old new c.args.step c.step-outcome.result step (sym told ∙ c.if-is_in_vain.true)
    (c.can_go_on.ensures.otherwise (search rules))

pub returns-then-is_in_vain-clause-some : goal.returns-then-is_in_vain-clause-some
returns-then-is_in_vain-clause-some g c =
    let old = c.args.machine.now in
    let new = c.step-outcome.new.self in
    let step : IsSeenStep g.row.S old new c.args.step c.step-outcome.result = record {
      machine = c.look-before.ensures.kept;
      runs = listed_runs c.args.machine.now.world c.args.running.now c.args.step c.requires.listed c.requires.one;
      world = c.step-outcome.ensures.world;
      image = c.step-outcome.ensures.image;
    } in
    let told = told_vain g.row.S old new c.args.step c.step-outcome.result c.look-before.result c.look-after.result
    c.is_in_vain.result c.look-before.ensures.is c.look-after.ensures.is c.is_in_vain.ensures in
    gone_vain g.row.S old new c.args.step c.step-outcome.result step (sym told ∙ c.if-is_in_vain.true)
    (c.can_go_on.ensures.yes (search rules))

pub returns-clause-some : goal.returns-clause-some
returns-clause-some g c =
    let old = c.args.machine.now in
    let new = c.step-outcome.new.self in
    let step : IsSeenStep g.row.S old new c.args.step c.step-outcome.result = record {
      machine = c.look-before.ensures.kept;
      runs = listed_runs c.args.machine.now.world c.args.running.now c.args.step c.requires.listed c.requires.one;
      world = c.step-outcome.ensures.world;
      image = c.step-outcome.ensures.image;
    } in
    let told = told_vain g.row.S old new c.args.step c.step-outcome.result c.look-before.result c.look-after.result
    c.is_in_vain.result c.look-before.ensures.is c.look-after.ensures.is c.is_in_vain.ensures in
    gone_on g.row.S old new c.args.step c.step-outcome.result c.is_same_run.result step
    (sym told ∙ c.if-is_in_vain.false)
    (told_same g.row.S old new c.args.step c.look-before.result c.look-after.result c.is_same_run.result
    c.look-before.ensures.is c.look-after.ensures.is c.is_same_run.ensures)
