use Rattle.std.proofs.Common.{rules}
use Rattle.schedule_space.proofs.KnownSteps.{seen_at}
use Rattle.schedule_space.proofs.known_steps.KnownSteps.find.Goals as goal

pub returns : goal.returns
returns c =
    seen_at c.args.self.now c.self.inside.asked c.self.inside.left.items c.args.asked.now c.in_ok-place.place
    c.index.result.now c.self.view_is c.self.invariant (search rules) (search rules) (search rules)
