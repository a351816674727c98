use Rattle.std.proofs.Common.{subst}
use Rattle.std.specs.List.{Contains}
use Rattle.world_keys.specs.DeadRegisters.Clearing.{IsLive}
use Rattle.schedule_space.specs.declared.links.Edge.{Edge}
use Rattle.schedule_space.specs.Spaces.{SpaceValue, AreAllDifferent, IsEdgeToStandIn}
use Rattle.schedule_space.proofs.spaces.Space.edges.Goals as goal

pub returns-clause-each : goal.returns-clause-each
returns-clause-each c =
    subst (λ (v : SpaceValue). (e : Edge) → Contains v.edges e → IsEdgeToStandIn v e) c.self.view_is c.self.invariant.edges

pub returns-clause-live : goal.returns-clause-live
returns-clause-live c =
    subst (λ (v : SpaceValue). IsLive v.image v.live) c.self.view_is c.self.invariant.live

pub returns-clause-once : goal.returns-clause-once
returns-clause-once c =
    subst (λ (v : SpaceValue). AreAllDifferent v.edges) c.self.view_is c.self.invariant.once
