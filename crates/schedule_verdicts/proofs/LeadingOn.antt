-- A walk goes on along the edges of a space.
use Rattle.std.proofs.Common.{◌≡◌, ℕ, ◌<◌, refl, sym, ap, ◌∙◌, subst, List, [], ◌∷◌, ◌++◌, length, get_or, Contains, Option, Some, None}
use Rattle.std.specs.Prelude.{IsTrue}
use Rattle.std.proofs.lemmas.Option.{same_Some}
use Rattle.std.proofs.lemmas.List.Elements.{All-push, Contains-get_or}
use Rattle.image_file.specs.ImageValue.{ImageValue}
use Rattle.machine.specs.MachineValue.{MachineValue}
use Rattle.machine.specs.Processor.World.{World, after}
use Rattle.busy_streams.specs.SameFutures.Handlers.{may_have_handlers}
use Rattle.busy_streams.proofs.SameFutures.Chains.{schedules_agree}
use Rattle.busy_streams.specs.DeadRegisters.Clearing.{IsLive, AgreeBy}
use Rattle.busy_streams.specs.ScheduleSpaceTypes.Edge.{Edge}
use Rattle.busy_streams.specs.ScheduleSpace.Spaces.{SpaceValue, count, schedule_of, world_of, machine_after, StandsFor, IsEdgeToStandIn}
use Rattle.busy_streams.specs.ScheduleSpace.Finding.{found_in}
use Rattle.busy_streams.proofs.ScheduleSpace.Agreeing.{Named, Live, Asked, ground, agree_both, agree_same}
use Rattle.schedule_verdicts.specs.Walking.{IsAt, machine_next, WalkValue, VisitValue, IsVisit, AreVisits, LeadsOn, IsWay, AreWays}

-- one step more
next_alike : (v : SpaceValue) → IsLive v.image v.live → (k : ℕ) (w : World) (e : Edge) → k < count v → StandsFor v k w
    → AgreeBy v.live (after v.image (world_of v k) e.step) (after v.image w e.step)
next_alike v live k w e below stands =
    schedules_agree v.image (IsTrue (may_have_handlers v.image)) (Named v.live) (Live v.live) (Asked v.live)
    (ground v live).closed (e.step ∷ []) ((found_in v).world k) w ((ground v live).told k below) stands

-- along an edge
pub leads_on : (v : SpaceValue) → IsLive v.image v.live → (e : Edge) → IsEdgeToStandIn v e → LeadsOn v e
leads_on v live e edge m at = record {
  there = edge.to;
  image = at.image;
  stands =
      subst (λ (i : ImageValue). AgreeBy v.live (world_of v e.to) (after i m.world e.step)) (sym at.image)
      (agree_both v.live (world_of v e.to) (after v.image (world_of v e.from) e.step) (after v.image m.world e.step)
      edge.leads (next_alike v live e.from m.world e at.there at.stands));
}

-- at the world of a place itself
pub at_itself : (v : SpaceValue) (place : ℕ) (m : MachineValue) → place < count v
    → m ≡ machine_after v.image (schedule_of v place) → IsAt v place m
at_itself v place m below is = record {
  there = below;
  image = ap (λ (x : MachineValue). x.image) is;
  stands = agree_same v.live (world_of v place) m.world (sym (ap (λ (x : MachineValue). x.world) is));
}

-- Places that a walk has still to come to.

pub with_machine : (v : SpaceValue) (place : ℕ) (m : MachineValue) → IsAt v place m
    → IsVisit v (record { place = place; machine = Some m })
with_machine v place m at = record {
  there = at.there;
  at = λ n is. subst (IsAt v place) (same_Some m n is) at;
}

pub without_machine : (v : SpaceValue) (place : ℕ) → place < count v → IsVisit v (record { place = place; machine = None })
without_machine v place below = record { there = below; at = λ n is. cc }

pub visit_more : (v : SpaceValue) (visits : List VisitValue) (visit : VisitValue) → AreVisits v visits → IsVisit v visit
    → AreVisits v (visits ++ visit ∷ [])
visit_more v visits visit all is = All-push (IsVisit v) visits visit all is

-- The edges of a tree.

pub way_at : (v : SpaceValue) (place : ℕ) (ways : List Edge) (k : ℕ) (e : Edge) → AreWays v place ways → k < length ways
    → e ≡ get_or ways k e → IsWay v place e
way_at v place ways k e all below is = subst (IsWay v place) (sym is) (all k e below)

-- a walk steps along an edge
pub step_at : (w u : WalkValue) (way : Edge) (m : MachineValue) → w ≡ u → IsWay u.space u.place way
    → IsAt w.space w.place w.machine → m ≡ machine_next w.machine way.step → IsAt w.space way.to m
step_at w u way m view on at is =
    let here : IsWay w.space w.place way = subst (λ (x : WalkValue). IsWay x.space x.place way) (sym view) on in
    subst (IsAt w.space way.to) (sym is)
    (here.leads w.machine (subst (λ (k : ℕ). IsAt w.space k w.machine) (sym here.from) at))

-- an edge of the space leads on from its place
pub way_among : (v : SpaceValue) → IsLive v.image v.live → ((e : Edge) → Contains v.edges e → IsEdgeToStandIn v e)
    → (es : List Edge) → es ≡ v.edges → (k : ℕ) (d : Edge) (place : ℕ) → k < length es → (get_or es k d).from ≡ place
    → IsWay v place (get_or es k d)
way_among v live each es same k d place below from = record {
  from = from;
  leads =
      leads_on v live (get_or es k d)
      (each (get_or es k d) (subst (λ (xs : List Edge). Contains xs (get_or es k d)) same (Contains-get_or es k d below)));
}
