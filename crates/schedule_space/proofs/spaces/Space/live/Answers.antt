use Rattle.std.proofs.Common.{subst}
use Rattle.world_keys.specs.DeadRegisters.Clearing.{IsLive}
use Rattle.schedule_space.specs.Spaces.{SpaceValue}
use Rattle.schedule_space.proofs.spaces.Space.live.Goals as goal

pub returns-clause-live : goal.returns-clause-live
returns-clause-live c =
    subst (λ (v : SpaceValue). IsLive v.image v.live) c.self.view_is c.self.invariant.live
