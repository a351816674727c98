use Rattle.std.proofs.Common.{sym, subst}
use Rattle.std.specs.List.{Contains}
use Rattle.world_keys.specs.DeadRegisters.Clearing.{IsLive}
use Rattle.schedule_space.specs.declared.links.Edge.{Edge}
use Rattle.schedule_space.specs.Spaces.{SpaceValue, AreAllApart, StandAlone, ShortestFirst, AreAllDifferent, HasEarlierLinks, IsEdgeToStandIn}
use Rattle.schedule_space.specs.Finding.{space_of, NamesAll}
use Rattle.schedule_space.proofs.Plain.{stand_alone}
use Rattle.schedule_space.proofs.finding.Found.into_space.Goals as goal

pub returns-clause-live : goal.returns-clause-live
returns-clause-live c =
    subst (λ (v : SpaceValue). IsLive v.image v.live) (sym c.from_parts.ensures) c.self.invariant.found.space.live

pub returns-clause-apart : goal.returns-clause-apart
returns-clause-apart c = subst AreAllApart (sym c.from_parts.ensures) c.self.invariant.found.keyed.apart

pub returns-clause-alone : goal.returns-clause-alone
returns-clause-alone c =
    subst (λ (v : SpaceValue). NamesAll v.live → StandAlone v) (sym c.from_parts.ensures)
    (λ named. stand_alone (space_of c.self.inside.image.now c.self.inside.live c.self.inside.begin.items c.self.inside.links.items c.self.inside.edges.items)
    c.self.inside.seen.contents c.self.inside.keys named c.self.invariant.found.space.live c.self.invariant.found.keyed)

pub returns-clause-edges : goal.returns-clause-edges
returns-clause-edges c =
    subst (λ (v : SpaceValue). (e : Edge) → Contains v.edges e → IsEdgeToStandIn v e) (sym c.from_parts.ensures)
    c.self.invariant.found.space.edges

pub returns-clause-in_order : goal.returns-clause-in_order
returns-clause-in_order c = subst ShortestFirst (sym c.from_parts.ensures) c.self.invariant.found.space.in_order

pub returns-clause-once : goal.returns-clause-once
returns-clause-once c =
    subst (λ (v : SpaceValue). AreAllDifferent v.edges) (sym c.from_parts.ensures) c.self.invariant.found.space.once

pub returns-clause-links : goal.returns-clause-links
returns-clause-links c = subst HasEarlierLinks (sym c.from_parts.ensures) c.self.invariant.found.space.earlier
