use Rattle.std.proofs.Common.{rules}
use Rattle.schedule_space.proofs.KnownSteps.{seen_more}
use Rattle.schedule_space.proofs.known_steps.KnownSteps.keep.Goals as goal

pub returns : goal.returns
returns c =
    seen_more c.args.self.now c.self.inside.asked c.push.new.self c.self.inside.left.items
    c.push_reserved.new.self.items c.args.asked.now c.args.left c.self.view_is c.self.invariant (search rules)
    (search rules)
