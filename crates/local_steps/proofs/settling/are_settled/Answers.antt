use Rattle.local_steps.proofs.Settled.{settled_by}
use Rattle.local_steps.proofs.settling.are_settled.Goals as goal

pub returns : goal.returns
returns c told =
    settled_by c.args.image.now c.args.places.now c.profile.result c.program.result.now c.profile.ensures
    c.program.ensures.is (c.are_calm.ensures told)
