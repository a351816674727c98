use Rattle.std.proofs.Common.{◌≡◌, ◌<◌, sym, ap, subst, arith, rules, length}
use Rattle.std.specs.Prelude.{IfOk}
use Rattle.machine.specs.MachineValue.{MachineValue}
use Rattle.schedule_space.specs.Spaces.{machine_by}
use Rattle.schedule_space.specs.Kept.{KeptValue}
use Rattle.schedule_space.specs.Before.{IsBefore, IsBehind}
use Rattle.schedule_space.proofs.Placing.{lent_is}
use Rattle.schedule_space.proofs.Before.{before_kept, there_by}
use Rattle.schedule_space.proofs.next_worlds.left_by.Goals as goal

pub returns-in_err-left-clause-steps : goal.returns-in_err-left-clause-steps
returns-in_err-left-clause-steps g c =
    let r = c.args.route in
    c.left_if_known.ensures.steps c.args.live.now
    (machine_by c.args.machines.now.first.image r.begin.now r.links.now r.place) c.requires.before

pub returns-in-Some-clause-left : goal.returns-in-Some-clause-left
returns-in-Some-clause-left g c =
    let r = c.args.route in
    let left =
    c.left_if_known.ensures.left c.args.live.now
    (machine_by c.args.machines.now.first.image r.begin.now r.links.now r.place) c.requires.before in
    search rules

pub returns-in-Some-clause-steps : goal.returns-in-Some-clause-steps
returns-in-Some-clause-steps g c =
    let r = c.args.route in
    c.left_if_known.ensures.steps c.args.live.now
    (machine_by c.args.machines.now.first.image r.begin.now r.links.now r.place) c.requires.before

pub returns-in_err-make_here-clause-steps : goal.returns-in_err-make_here-clause-steps
returns-in_err-make_here-clause-steps g c =
    let r = c.args.route in
    c.left_if_known.ensures.steps c.args.live.now
    (machine_by c.args.machines.now.first.image r.begin.now r.links.now r.place) c.requires.before

pub left_anew-requires : goal.left_anew-requires
left_anew-requires g c =
    let r = c.args.route in
    let m = machine_by c.args.machines.now.first.image r.begin.now r.links.now r.place in
    let at : c.unwrap.result.now ≡ m =
    lent_is c.here.result c.unwrap.result c.make_here.new.self.here m c.here.ensures c.unwrap.ensures
    (ap (λ (x : KeptValue). x.here) c.in_ok-make_here.ensures.made) in
    let before =
    before_kept c.args.live.now c.args.seen.now.contents c.left_if_known.new.seen.contents c.args.seen.now.steps
    c.left_if_known.new.seen.steps m c.args.before.now c.left_if_known.ensures.grown
    (c.left_if_known.ensures.steps c.args.live.now m c.requires.before) c.requires.before in
    let there : c.args.step.p < length m.world.processors =
    there_by c.args.live.now c.args.seen.now.contents c.args.seen.now.steps m c.args.before.now c.args.step.p c.requires.before
    c.requires.there in (
      omega arith,
      (
        subst (λ (x : MachineValue). c.args.step.p < length x.world.processors) (sym at) there,
        subst (λ (x : MachineValue). IsBefore c.args.live.now c.left_if_known.new.seen.contents c.left_if_known.new.seen.steps x c.args.before.now)
            (sym at) before,
      ),
    )

pub returns-clause-left : goal.returns-clause-left
returns-clause-left g c =
    let r = c.args.route in
    let m = machine_by c.args.machines.now.first.image r.begin.now r.links.now r.place in
    let at : c.unwrap.result.now ≡ m =
    lent_is c.here.result c.unwrap.result c.make_here.new.self.here m c.here.ensures c.unwrap.ensures
    (ap (λ (x : KeptValue). x.here) c.in_ok-make_here.ensures.made) in
    subst (λ (x : MachineValue). IfOk c.left_anew.result (IsBehind c.args.live.now c.left_anew.new.seen.contents x c.args.step)) at
    c.left_anew.ensures.left
