use Rattle.std.proofs.Common.{None}
use Rattle.machine.specs.ProcessorTypes.Step.{Step}
use Rattle.waiting.proofs.Told.{wait_asked, wait_is, stuck_waits, told_unasked, told_asking}
use Rattle.waiting.proofs.waiting_for.wait_of.Goals as goal

pub returns-in-Skip : goal.returns-in-Skip
returns-in-Skip g c =
    let t : Step = record { p = c.args.p; s = c.args.s } in
    let told = told_unasked c.args.machine.now t c.next.result c.next.ensures c.in-Skip.is in
    record {
      asked = wait_asked c.args.machine.now t None told;
      is = λ wait. wait_is c.args.machine.now t None wait told;
      stuck = stuck_waits c.args.machine.now t None told;
    }

pub returns-in-Ask : goal.returns-in-Ask
returns-in-Ask g c =
    let t : Step = record { p = c.args.p; s = c.args.s } in
    let told =
    told_asking c.args.machine.now t c.in-Ask.request c.ending.result.reply c.wait_replied.result c.in-Ask.ensures
    c.ending.ensures.reply c.wait_replied.ensures in
    record {
      asked = wait_asked c.args.machine.now t c.wait_replied.result told;
      is = λ wait. wait_is c.args.machine.now t c.wait_replied.result wait told;
      stuck = stuck_waits c.args.machine.now t c.wait_replied.result told;
    }
