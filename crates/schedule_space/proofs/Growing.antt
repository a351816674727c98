-- Spaces that grow keep what was known of them.
use Rattle.std.proofs.Common.{◌≡◌, ℕ, ◌+◌, ◌<◌, ◌≤◌, refl, sym, ap, ◌∙◌, subst, arith, [], ◌∷◌, ◌++◌}
use Rattle.std.proofs.Common.{inl, inr, length, get_or, length-append}
use Rattle.std.proofs.lemmas.List.{get_or_append_left}
use Rattle.std.proofs.lemmas.List.Elements.{Contains-append_left}
use Rattle.std.proofs.Math.Seq.{get_or-append_seam}
use Rattle.processor.specs.World.{World, after, run}
use Rattle.processor.specs.declared.steps.Step.{Step}
use Rattle.world_keys.specs.DeadRegisters.Clearing.{LiveValue, AgreeBy}
use Rattle.schedule_space.specs.declared.links.Link.{Link}
use Rattle.schedule_space.specs.declared.links.Edge.{Edge}
use Rattle.schedule_space.specs.Spaces.{schedules, SpaceValue, count, schedule_of, world_of, StandsFor, IsEdgeToStandIn}
use Rattle.schedule_space.specs.Finding.{with_link, with_edge, IsGrown, IsTaken, IsTakenTo, IsExpanded}
use Rattle.schedule_space.proofs.Schedules.{one_more, schedules-push, length-schedules, run-push}

pub grown_refl : (v : SpaceValue) → IsGrown v v
grown_refl v = record {
  image = refl;
  live = refl;
  begin = refl;
  more = omega arith;
  same = λ k below. refl;
  edges = λ e has. has;
}

pub grown_to : (v w : SpaceValue) → w ≡ v → IsGrown v w
grown_to v w is = subst (λ (x : SpaceValue). IsGrown v x) (sym is) (grown_refl v)

pub grown_trans : (u v w : SpaceValue) → IsGrown u v → IsGrown v w → IsGrown u w
grown_trans u v w g h = record {
  image = h.image ∙ g.image;
  live = h.live ∙ g.live;
  begin = h.begin ∙ g.begin;
  more = omega (arith, g.more, h.more);
  same = λ k below. h.same k (omega (arith, g.more, below)) ∙ g.same k below;
  edges = λ e has. h.edges e (g.edges e has);
}

pub world_grown : (v w : SpaceValue) (k : ℕ) → IsGrown v w → k < count v → world_of w k ≡ world_of v k
world_grown v w k g below = λ i. run (g.image i) (g.same k below i)

-- One world more.

-- the schedule of the new place
pub last_schedule : (v : SpaceValue) (l : Link)
    → schedule_of (with_link v l) (count v) ≡ schedule_of v l.from ++ l.step ∷ []
last_schedule v l =
    ap (λ xs. get_or xs (count v) []) (schedules-push v.begin v.links l)
    ∙ ap (λ n. get_or (schedules v.begin v.links ++ one_more (schedules v.begin v.links) l ∷ []) n [])
    (sym (length-schedules v.begin v.links))
    ∙ get_or-append_seam (schedules v.begin v.links) (one_more (schedules v.begin v.links) l) [] []

-- those of the others stay
pub other_schedule : (v : SpaceValue) (l : Link) (k : ℕ) → k < count v
    → schedule_of (with_link v l) k ≡ schedule_of v k
other_schedule v l k below =
    ap (λ xs. get_or xs k []) (schedules-push v.begin v.links l)
    ∙ get_or_append_left (schedules v.begin v.links) (one_more (schedules v.begin v.links) l ∷ []) [] k
    (omega (arith, length-schedules v.begin v.links, below))

pub count-link : (v : SpaceValue) (l : Link) → count (with_link v l) ≡ count v + 1
count-link v l = omega (arith, length-append v.links (l ∷ []))

pub last_world : (v : SpaceValue) (l : Link)
    → world_of (with_link v l) (count v) ≡ after v.image (world_of v l.from) l.step
last_world v l = ap (run v.image) (last_schedule v l) ∙ run-push v.image (schedule_of v l.from) l.step

pub with_link_grown : (v : SpaceValue) (l : Link) → IsGrown v (with_link v l)
with_link_grown v l = record {
  image = refl;
  live = refl;
  begin = refl;
  more = omega (arith, length-append v.links (l ∷ []));
  same = λ k below. other_schedule v l k below;
  edges = λ e has. has;
}

pub with_edge_grown : (v : SpaceValue) (e : Edge) → IsGrown v (with_edge v e)
with_edge_grown v e = record {
  image = refl;
  live = refl;
  begin = refl;
  more = omega arith;
  same = λ k below. refl;
  edges = λ d has. Contains-append_left v.edges (e ∷ []) d has;
}

-- What stays.

stands_grown : (v w : SpaceValue) (k from : ℕ) (t : Step) → IsGrown v w → k < count v → from < count v
    → StandsFor v k (after v.image (world_of v from) t) → StandsFor w k (after w.image (world_of w from) t)
stands_grown v w k from t g below there is =
    let next : after v.image (world_of v from) t ≡ after w.image (world_of w from) t =
    λ i. after (sym g.image i) (sym (world_grown v w from g there) i) t in
    subst (λ (l : LiveValue). AgreeBy l (world_of w k) (after w.image (world_of w from) t)) (sym g.live)
    (subst (λ (a : World). AgreeBy v.live a (after w.image (world_of w from) t)) (sym (world_grown v w k g below))
    (subst (AgreeBy v.live (world_of v k)) next is))

pub edge_grown : (v w : SpaceValue) (e : Edge) → IsGrown v w → IsEdgeToStandIn v e → IsEdgeToStandIn w e
edge_grown v w e g is = record {
  from = omega (arith, g.more, is.from);
  to = omega (arith, g.more, is.to);
  apart = is.apart;
  leads = stands_grown v w e.to e.from e.step g is.to is.from is.leads;
}

-- a step that is taken leads to the same place
pub taken_still : (v w : SpaceValue) (k : ℕ) (t : Step) → IsGrown v w → k < count v → (is : IsTaken v k t)
    → IsTakenTo w k t is.step.to
taken_still v w k t g below is =
    let to = is.step.to in
    let within : to < count v = is.step.within in
    let near : length (schedule_of v to) ≤ length (schedule_of v k) + 1 = is.step.near in (
      record {
        step = record {
          to = to;
          within = omega (arith, g.more, within);
          leads = stands_grown v w to k t g within below is.step.leads;
          near =
              subst (λ (n : ℕ). n ≤ length (schedule_of w k) + 1) (sym (ap length (g.same to within)))
              (subst (λ (n : ℕ). length (schedule_of v to) ≤ n + 1) (sym (ap length (g.same k below))) near);
        };
        edge =
            elim is.edge [
              | inl same ↦ inl same
              | inr has ↦ inr (g.edges (record { from = k; step = t; to = to }) has)
            ];
      },
      refl,
    )

pub taken_grown : (v w : SpaceValue) (k : ℕ) (t : Step) → IsGrown v w → k < count v → IsTaken v k t → IsTaken w k t
taken_grown v w k t g below is = (taken_still v w k t g below is).0

pub expanded_grown : (v w : SpaceValue) (k : ℕ) → IsGrown v w → k < count v → IsExpanded v k → IsExpanded w k
expanded_grown v w k g below all t = taken_grown v w k t g below (all t)
