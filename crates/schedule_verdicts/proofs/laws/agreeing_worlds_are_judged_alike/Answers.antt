use Rattle.schedule_verdicts.proofs.laws.agreeing_worlds_are_judged_alike.Goals as goal
use Rattle.schedule_verdicts.proofs.Alike.{agreeing_met, agreeing_right, agreeing_claims}

pub returns-clause-met : goal.returns-clause-met
returns-clause-met c l a b es g named = agreeing_met l a b g es named

pub returns-clause-right : goal.returns-clause-right
returns-clause-right c l a b es g named = agreeing_right l a b g es named

pub returns-clause-claims : goal.returns-clause-claims
returns-clause-claims c l a b cs g = agreeing_claims l a b g cs
