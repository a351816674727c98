use Rattle.std.proofs.Common.{subst}
use Rattle.world_keys.specs.DeadRegisters.Clearing.{IsLive}
use Rattle.schedule_space.specs.Spaces.{SpaceValue, ShortestFirst}
use Rattle.schedule_space.proofs.spaces.Space.len.Goals as goal

pub returns-clause-live : goal.returns-clause-live
returns-clause-live c =
    subst (λ (v : SpaceValue). IsLive v.image v.live) c.self.view_is c.self.invariant.live

pub returns-clause-in_order : goal.returns-clause-in_order
returns-clause-in_order c = subst ShortestFirst c.self.view_is c.self.invariant.in_order
