use Rattle.std.proofs.Common.{arith, rules, get_or}
use Rattle.std.specs.List.{Contains}
use Rattle.processor.specs.declared.steps.Step.{Step}
use Rattle.first_sets.specs.ApartSets.{KeepsOff}
use Rattle.first_sets.proofs.Members.{one_more, each_one, all_keep_off}
use Rattle.first_sets.proofs.deciding.are_kept_off.Goals as goal

pub loop-step-preserved : goal.loop-step-preserved
loop-step-preserved g c =
    let first : Step = record { p = 0; s = 0 } in
    let n = c.loop-step.step-index in
    let last : ¬ (Contains c.args.set.now (get_or c.args.running.now n first))
    → KeepsOff c.args.tables.now c.args.machine.now.world (get_or c.args.running.now n first) c.args.is_quiet
    c.args.request.now =
    search rules in
    one_more
    (λ (u : Step). ¬ (Contains c.args.set.now u) → KeepsOff c.args.tables.now c.args.machine.now.world u c.args.is_quiet
    c.args.request.now)
    c.args.running.now n first (omega arith) c.loop-step.invariant last

pub returns : goal.returns
returns g c =
    λ yes.
    all_keep_off c.args.tables.now c.args.machine.now.world c.args.running.now c.args.set.now c.args.is_quiet
    c.args.request.now c.requires.running
    (each_one
    (λ (u : Step). ¬ (Contains c.args.set.now u) → KeepsOff c.args.tables.now c.args.machine.now.world u c.args.is_quiet
    c.args.request.now)
    c.args.running.now c.loop-step.step-index (omega arith) c.loop-step.invariant)
