use Rattle.std.proofs.Common.{◌≡◌, ◌∙◌, sym, ap, subst, rules, inl, refl, List, [], ◌∷◌, ◌++◌}
use Rattle.processor.specs.World.{after}
use Rattle.schedule_space.specs.declared.links.Edge.{Edge}
use Rattle.schedule_space.specs.Spaces.{SpaceValue, world_of}
use Rattle.schedule_space.specs.Finding.{IsGrown, IsTakenTo}
use Rattle.schedule_space.proofs.Different.{no_edge_same, no_edge_more}
use Rattle.schedule_space.proofs.Growing.{grown_trans, with_edge_grown}
use Rattle.schedule_space.proofs.Placing.{edge_expanding, stays_expanding}
use Rattle.schedule_space.proofs.Taking.{taken_there, taken_edge, edge_to}
use Rattle.schedule_space.proofs.Kept.{at_hand_grown}
use Rattle.schedule_space.proofs.finding.Found.take.Goals as goal

pub add_edge-requires : goal.add_edge-requires
add_edge-requires g c =
    let v = c.args.self.now in
    let here = after v.image (world_of v c.args.link.from) c.args.link.step in
    let e : Edge = record { from = c.args.link.from; step = c.args.link.step; to = c.in_ok-to.to } in
    record {
      edge =
          edge_to c.args.self.now c.place.new.self c.args.link.from c.in_ok-to.to c.args.link.step here
          c.place.ensures.grown c.requires.expanding.there c.in_ok-to.ensures.there c.in_ok-to.ensures.stands
          refl (search rules);
      new = λ has.
          no_edge_same v c.place.new.self c.args.link.from c.args.link.step c.place.ensures.edges c.requires.new e has refl refl;
    }

pub returns-then-to-link : goal.returns-then-to-link
returns-then-to-link g c =
    let v = c.args.self.now in
    let here = after v.image (world_of v c.args.link.from) c.args.link.step in
    let there : IsTakenTo c.place.new.self c.args.link.from c.args.link.step c.in_ok-to.to =
    taken_there c.args.self.now c.place.new.self c.args.link.from c.in_ok-to.to c.args.link.step
    here c.place.ensures.grown c.requires.expanding.there c.in_ok-to.ensures.there
    c.in_ok-to.ensures.stands refl
    c.place.ensures.expanding.breadth (inl (search rules)) in
    record {
      grown = c.place.ensures.grown;
      edges = λ t _ none. no_edge_same v c.place.new.self c.args.link.from t c.place.ensures.edges none;
      expanding = c.place.ensures.expanding;
      full = λ e. absurd cc;
      machines = c.in_ok-to.ensures.machines;
      taken = there.0;
      to = there;
    }

pub returns-in_err-add_edge-clause-grown : goal.returns-in_err-add_edge-clause-grown
returns-in_err-add_edge-clause-grown g c =
    let same : c.add_edge.new.self ≡ c.place.new.self = c.in_err-add_edge.ensures.stays in
    subst (λ (x : SpaceValue). IsGrown c.args.self.now x) (sym same) c.place.ensures.grown

pub returns-in_err-add_edge-clause-edges : goal.returns-in_err-add_edge-clause-edges
returns-in_err-add_edge-clause-edges g c = λ t _ none.
    no_edge_same c.args.self.now c.add_edge.new.self c.args.link.from t
    (ap (λ (x : SpaceValue). x.edges) c.in_err-add_edge.ensures.stays ∙ c.place.ensures.edges) none

pub returns-in_err-to-clause-edges : goal.returns-in_err-to-clause-edges
returns-in_err-to-clause-edges g c = λ t _ none.
    no_edge_same c.args.self.now c.place.new.self c.args.link.from t c.place.ensures.edges none

pub returns-in_err-add_edge-clause-expanding : goal.returns-in_err-add_edge-clause-expanding
returns-in_err-add_edge-clause-expanding g c =
    stays_expanding c.place.new.self c.add_edge.new.self c.args.link.from c.args.most c.in_err-add_edge.ensures.stays
    c.place.ensures.expanding

pub returns : goal.returns
returns g c =
    let v = c.args.self.now in
    let behind = after v.image (world_of v c.args.link.from) c.args.link.step in
    let here = c.place.new.self in
    let new = c.add_edge.new.self in
    let e : Edge = record { from = c.args.link.from; step = c.args.link.step; to = c.in_ok-to.to } in
    let is = c.in_ok-add_edge.ensures.added in
    let there : IsTakenTo new c.args.link.from c.args.link.step c.in_ok-to.to =
    subst (λ (x : SpaceValue). IsTakenTo x c.args.link.from c.args.link.step c.in_ok-to.to) (sym is)
    (taken_edge v here c.args.link.from c.in_ok-to.to c.args.link.step behind e
    c.place.ensures.grown c.requires.expanding.there c.in_ok-to.ensures.there c.in_ok-to.ensures.stands
    refl
    c.place.ensures.expanding.breadth refl) in
    record {
      grown =
          grown_trans v here new c.place.ensures.grown
          (subst (λ (x : SpaceValue). IsGrown here x) (sym is) (with_edge_grown here e));
      edges = λ t off none.
          no_edge_more v new e c.args.link.from t
          (ap (λ (x : SpaceValue). x.edges) is ∙ ap (λ (es : List Edge). es ++ e ∷ []) c.place.ensures.edges) off none;
      expanding = edge_expanding here new e c.args.link.from c.args.most is refl c.place.ensures.expanding;
      full = λ e. absurd cc;
      machines =
          at_hand_grown here new c.place.new.machines c.args.link.from
          (subst (λ (x : SpaceValue). IsGrown here x) (sym is) (with_edge_grown here e))
          c.place.ensures.expanding.there c.in_ok-to.ensures.machines;
      taken = there.0;
      to = there;
    }
