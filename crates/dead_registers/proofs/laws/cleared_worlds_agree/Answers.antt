use Rattle.dead_registers.proofs.laws.cleared_worlds_agree.Goals as goal
use Rattle.dead_registers.proofs.Worlds.{cleared_agrees, agreeing_same, same_agree}
use Rattle.dead_registers.proofs.Schedules.{named_kept}

pub returns-clause-agrees : goal.returns-clause-agrees
returns-clause-agrees c = cleared_agrees

pub returns-clause-named : goal.returns-clause-named
returns-clause-named c = named_kept

pub returns-clause-same : goal.returns-clause-same
returns-clause-same c l a b = (agreeing_same l a b, same_agree l a b)
