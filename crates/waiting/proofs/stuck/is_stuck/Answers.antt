use Rattle.std.proofs.Common.{None, false, refl}
use Rattle.waiting.proofs.StuckSteps.{stuck_by, stuck_unasked, stuck_asking}
use Rattle.machine.specs.ProcessorTypes.Step.{Step}
use Rattle.machine.specs.MachineValue.{next_in}
use Rattle.waiting.proofs.stuck.is_stuck.Goals as goal

pub returns-in_default : goal.returns-in_default
returns-in_default g c =
    let t : Step = record { p = c.args.p; s = c.args.s } in
    stuck_by g.row.S c.args.machine.now t None (next_in c.args.machine.now t) false c.image.ensures.kept
    c.in_default.ensures refl refl

pub returns-in-Skip : goal.returns-in-Skip
returns-in-Skip g c =
    stuck_unasked g.row.S c.args.machine.now (record { p = c.args.p; s = c.args.s }) c.in-Some.stream.now c.next.result
    c.image.ensures.kept c.in-Some.ensures c.next.ensures c.in-Skip.is

pub returns-in-Ask : goal.returns-in-Ask
returns-in-Ask g c =
    stuck_asking g.row.S c.args.machine.now (record { p = c.args.p; s = c.args.s }) c.image.result.now
    c.retry_limit-limit.result c.in-Some.stream.now c.in-Ask.request c.ending.result.reply c.is_kept_by.result
    c.image.ensures.kept c.in-Some.ensures c.in-Ask.ensures c.image.ensures.is c.retry_limit-limit.ensures
    c.ending.ensures.reply c.is_kept_by.ensures
