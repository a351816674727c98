use Rattle.std.proofs.Common.{inr}
use Rattle.local_steps.proofs.Settled.{settled_ends}
use Rattle.local_steps.proofs.deciding.is_free_step.Goals as goal

pub returns-else-is_local_step-clause-free : goal.returns-else-is_local_step-clause-free
returns-else-is_local_step-clause-free g c = λ settled ends.
    inr (settled_ends c.args.machine.now.image c.args.places.now c.args.machine.now.world c.args.step settled
    (c.is_settled_ending.ensures.0 ends))
