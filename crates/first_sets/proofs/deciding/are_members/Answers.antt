use Rattle.std.proofs.Common.{arith, rules, get_or}
use Rattle.processor.specs.declared.steps.Step.{Step}
use Rattle.first_sets.specs.ApartSets.{IsMember}
use Rattle.first_sets.proofs.Members.{one_more, each_one}
use Rattle.first_sets.proofs.deciding.are_members.Goals as goal

pub loop-step-preserved : goal.loop-step-preserved
loop-step-preserved g c =
    let m = c.args.machine.now in
    let first : Step = record { p = 0; s = 0 } in
    let n = c.loop-step.step-index in
    let last : IsMember m.image c.args.tables.now m.world c.args.set.now (get_or c.args.set.now n first) = search rules in
    one_more (λ (t : Step). IsMember m.image c.args.tables.now m.world c.args.set.now t) c.args.set.now n first (omega arith)
    c.loop-step.invariant last

pub returns : goal.returns
returns g c =
    let m = c.args.machine.now in
    λ yes.
    each_one (λ (t : Step). IsMember m.image c.args.tables.now m.world c.args.set.now t) c.args.set.now
    c.loop-step.step-index (omega arith) c.loop-step.invariant
