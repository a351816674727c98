use Rattle.std.proofs.Common.{slice_get}
use Rattle.expectations.proofs.Resting.{at_rest}
use Rattle.expectations.proofs.judging.is_at_rest.Goals as goal

pub returns-in-Some : goal.returns-in-Some
returns-in-Some g c = at_rest (slice_get c.args.machine.now.world.processors c.args.p) c.in-Some.current
    c.in-Some.field-0-1 c.in-Some.ensures.is c.in-Some.ensures.counts
