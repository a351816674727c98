use Rattle.std.proofs.Common.{rules}
use Rattle.schedule_makers.proofs.LastSteps.{are-last-more}
use Rattle.schedule_makers.proofs.fair_choice.Fair.choose.Goals as goal

pub returns-clause-follows : goal.returns-clause-follows
returns-clause-follows c =
    are-last-more c.args.self.now.lasts c.args.made.now c.in_ok-next.next c.from.result c.from.ensures (search rules)
    c.requires
