use Rattle.std.proofs.Common.{arith}
use Rattle.std.proofs.lemmas.Grind.{common_steps}
use Rattle.first_sets.specs.NoForwardBits.{may_forward}
use Rattle.first_sets.proofs.NeverForwarded.{never_forwarded}
use Rattle.first_sets.proofs.forward_bits.may_forward.Goals as goal

pub returns-else-any_forward-clause-never : goal.returns-else-any_forward-clause-never
unfolding may_forward
returns-else-any_forward-clause-never c =
    λ no. never_forwarded c.args.image.now (grind (arith, common_steps))
