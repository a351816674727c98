-- Rounds of the graph of a space are rounds of its program, and the other way round.
use Rattle.std.proofs.Common.{◌≡◌, ℕ, ◌<◌, refl, sym, ap, ◌∙◌, subst, arith, Bool, true}
use Rattle.std.proofs.Common.{List, [], ◌∷◌, map, length, Contains}
use Rattle.std.specs.Prelude.{IsTrue}
use Rattle.image_file.specs.ImageValue.{ImageValue}
use Rattle.processor.specs.World.{World, after, steps, run}
use Rattle.processor.specs.declared.steps.Step.{Step}
use Rattle.waiting.specs.Running.{runs_in}
use Rattle.claims.specs.declared.run_conditions.Rest.{Rest}
use Rattle.schedule_space.specs.Spaces.{SpaceValue, count, world_of}
use Rattle.starving_streams.specs.Reports.{HasAllStates}
use Rattle.fair_rounds.specs.declared.graphs.Edge.{Edge}
use Rattle.fair_rounds.specs.declared.graphs.Standing.{Standing}
use Rattle.fair_rounds.specs.Rounds.{IsIn, IsWalk, Passes, Runs, CanComplete, IsBlockedIn}
use Rattle.fair_rounds.specs.Rounds as graph
use Rattle.fair_rounds.proofs.Walks.{head_in, tail_in, walk_on}
use Rattle.fair_rounds.proofs.Lists.{mapped, mapped_from}
use Rattle.starving_streams.specs.declared.graphs.Graph.{Graph}
use Rattle.starving_streams.specs.Rests.{is_due}
use Rattle.starving_streams.specs.Starving.{can_complete, TakenStep, taken, Starves, IsDueThroughout, CanWaitForEver}
use Rattle.starving_streams.specs.Starving as world
use Rattle.starving_streams.specs.Graphs.{Stands, IsStepEdge, Leaves, IsGraph, AreMarksOf, step_of}

-- What holds of each world in which a step is taken, and of the last one, holds of the first one.
pub holds_first : (P : World → Type 0) (image : ImageValue) (w : World) (ts : List Step)
    → ((x : TakenStep) → Contains (taken image w ts) x → P x.world) → P (steps image w ts) → P w
holds_first P image w [] stay last = last
holds_first P image w (t ∷ ts) stay last =
    stay (record { world = w; step = t }) (head_in (record { world = w; step = t }) (taken image (after image w t) ts))

-- a step of an edge, with the world of the place that it leads from
abbrev pub taken_at : SpaceValue → Edge → TakenStep
taken_at v e = record { world = world_of v e.from; step = e.step }

-- some edge is there where some step is
pub some_edge : (es : List Edge) (ts : List Step) → map step_of es ≡ ts → 0 < length ts → 0 < length es
some_edge [] ts is some =
    let none : length ts ≡ 0 = ap length (sym is) in
    absurd (omega (arith, none, some))
some_edge (e ∷ es) ts is some = omega arith

pub some_step : (es : List Edge) → 0 < length es → 0 < length (map step_of es)
some_step [] some = some
some_step (e ∷ es) some = omega arith

module _ (v : SpaceValue) (rests : List Rest) (g : Graph) (is : IsGraph v rests g) where
  abbrev edges : List Edge
  edges = g.edges.items

  abbrev standings : List Standing
  standings = g.standings.items

  abbrev dues : List Standing
  dues = g.dues.items

  standing_here : (k : ℕ) (who : Step) → k < count v → IsTrue (runs_in (world_of v k) who) → Stands standings k who
  standing_here k who below runs = is.standings.all k who below runs

  due_here : (k : ℕ) (who : Step) → k < count v → IsTrue (is_due rests (world_of v k) who) → Stands dues k who
  due_here k who below due = is.dues.all k who below due

  edge_here : (k : ℕ) (who : Step) → k < count v → IsTrue (runs_in (world_of v k) who) → Leaves edges k who
  edge_here k who below runs =
      let s = standing_here k who below runs in
      let listed = is.streams s.0 s.1 in
      let e = is.edges.all s.0 listed.0 s.0.step s.1 listed.1 listed.2 in
      (e.0, e.1, e.2 ∙ s.2, e.3 ∙ s.3)

  module _ (marks : List Bool) where
    -- From the graph to the program.

    pub walk_leads : (es : List Edge) (k j : ℕ) → IsWalk edges marks k es j
        → steps v.image (world_of v k) (map step_of es) ≡ world_of v j
    walk_leads [] k j same = ap (world_of v) same
    walk_leads (e ∷ es) k j walk =
        let here = is.edges.sound e walk.0.there in
        ap (λ (n : ℕ). steps v.image (after v.image (world_of v n) e.step) (map step_of es)) (sym walk.0.from_is)
        ∙ ap (λ (w : World). steps v.image w (map step_of es)) (sym here.leads)
        ∙ walk_leads es e.to j walk.1

    pub walk_taken : (es : List Edge) (k j : ℕ) → IsWalk edges marks k es j
        → taken v.image (world_of v k) (map step_of es) ≡ map (taken_at v) es
    walk_taken [] k j same = refl
    walk_taken (e ∷ es) k j walk =
        let here = is.edges.sound e walk.0.there in
        let rest : taken v.image (after v.image (world_of v e.from) e.step) (map step_of es) ≡ map (taken_at v) es =
        ap (λ (w : World). taken v.image w (map step_of es)) (sym here.leads) ∙ walk_taken es e.to j walk.1 in
        ap (λ (n : ℕ). taken v.image (world_of v n) (e.step ∷ map step_of es)) (sym walk.0.from_is)
        ∙ ap (λ (xs : List TakenStep). taken_at v e ∷ xs) rest

    module _ (es : List Edge) (k j : ℕ) (walk : IsWalk edges marks k es j) where
      abbrev w : World
      w = world_of v k

      abbrev round : List Step
      round = map step_of es

      same_taken : taken v.image w round ≡ map (taken_at v) es
      same_taken = walk_taken es k j walk

      -- a step of the walk is an edge
      pub edge_taken : (x : TakenStep) → Contains (taken v.image w round) x → (e : Edge) × Contains es e × (taken_at v e ≡ x)
      edge_taken x there = mapped_from (taken_at v) es x (subst (λ (xs : List TakenStep). Contains xs x) same_taken there)

      -- an edge is a step of the walk
      pub taken_edge : (e : Edge) → Contains es e → Contains (taken v.image w round) (taken_at v e)
      taken_edge e there =
          subst (λ (xs : List TakenStep). Contains xs (taken_at v e)) (sym same_taken) (mapped (taken_at v) es e there)

      pub step_edge : (e : Edge) → Contains es e → IsStepEdge v e
      step_edge e there = let on = walk_on edges marks es k j e walk there in is.edges.sound e on.is.there

      -- The same of what is due to a stream.

      due_world : (who : Step) → ((n : ℕ) → Passes es n → Runs dues n who) → IsDueThroughout v.image rests w round who
      due_world who runs x there =
          let e = edge_taken x there in
          let s = runs e.0.from (e.0, e.1, refl) in
          let stand = is.dues.sound s.0 s.1 in
          subst (λ (y : TakenStep). IsTrue (is_due rests y.world who)) e.2
          (subst (λ (n : ℕ). IsTrue (is_due rests (world_of v n) who)) s.2
          (subst (λ (t : Step). IsTrue (is_due rests (world_of v s.0.place) t)) s.3 stand.due))

      due_graph : (who : Step) → IsDueThroughout v.image rests w round who → (n : ℕ) → Passes es n → Runs dues n who
      due_graph who due n passes =
          let e = passes.0 in
          let here : IsTrue (is_due rests (world_of v e.from) who) = due (taken_at v e) (taken_edge e passes.1) in
          let s = due_here e.from who (step_edge e passes.1).from here in
          (s.0, s.1, s.2 ∙ passes.2, s.3)

      steps_world : (who : Step) → graph.Steps es who → world.Steps v.image w round who
      steps_world who got = (taken_at v got.0, taken_edge got.0 got.1, got.2)

      steps_graph : (who : Step) → world.Steps v.image w round who → graph.Steps es who
      steps_graph who got =
          let e = edge_taken got.0 got.1 in
          (e.0, e.1, ap (λ (y : TakenStep). y.step) e.2 ∙ got.2)

      -- whether an edge of the walk completes
      edge_completes : (e : Edge) (who : Step) → Contains es e → e.step ≡ who
          → e.completes ≡ can_complete v.image (world_of v e.from) who
      edge_completes e who there own =
          (step_edge e there).completes ∙ ap (can_complete v.image (world_of v e.from)) own

      completes_world : (who : Step) → graph.Completes es who → world.Completes v.image w round who
      completes_world who got = (
        taken_at v got.0,
        taken_edge got.0 got.1,
        got.2,
        sym (edge_completes got.0 who got.1 got.2) ∙ got.3,
      )

      completes_graph : (who : Step) → world.Completes v.image w round who → graph.Completes es who
      completes_graph who got =
          let e = edge_taken got.0 got.1 in
          let own : e.0.step ≡ who = ap (λ (y : TakenStep). y.step) e.2 ∙ got.2 in (
            e.0,
            e.1,
            own,
            edge_completes e.0 who e.1 own
                ∙ ap (λ (y : TakenStep). can_complete v.image y.world who) e.2
                ∙ got.3,
          )

      pub fair_steps_world : graph.IsFairBySteps dues es → world.IsFairBySteps v.image rests w round
      fair_steps_world fair = λ who due. steps_world who (fair who (due_graph who due))

      pub fair_steps_graph : world.IsFairBySteps v.image rests w round → graph.IsFairBySteps dues es
      fair_steps_graph fair = λ who runs. steps_graph who (fair who (due_world who runs))

      pub fair_world : graph.IsFairByWords dues es → world.IsFairByWords v.image rests w round
      fair_world fair = record {
        steps = fair_steps_world fair.steps;
        words = λ x who there due can.
            let e = edge_taken x there in
            let from = (step_edge e.0 e.1).from in
            let at : (taken_at v e.0).world ≡ x.world = ap (λ (y : TakenStep). y.world) e.2 in
            let s = due_here e.0.from who from (subst (λ (y : World). IsTrue (is_due rests y who)) (sym at) due) in
            let able : s.0.can_complete ≡ true =
            (is.dues.sound s.0 s.1).can
            ∙ ap (λ (n : ℕ). can_complete v.image (world_of v n) s.0.step) s.2
            ∙ ap (can_complete v.image (world_of v e.0.from)) s.3
            ∙ ap (λ (y : World). can_complete v.image y who) at
            ∙ can in
            completes_world who (fair.words e.0.from who (e.0, e.1, refl) (s.0, s.1, s.2, s.3, able));
      }

      pub fair_graph : world.IsFairByWords v.image rests w round → graph.IsFairByWords dues es
      fair_graph fair = record {
        steps = fair_steps_graph fair.steps;
        words = λ n who passes can.
            let e = passes.0 in
            let stand = is.dues.sound can.0 can.1 in
            let at : can.0.place ≡ e.from = can.2 ∙ sym passes.2 in
            let due : IsTrue (is_due rests (world_of v e.from) who) =
            subst (λ (m : ℕ). IsTrue (is_due rests (world_of v m) who)) at
            (subst (λ (t : Step). IsTrue (is_due rests (world_of v can.0.place) t)) can.3 stand.due) in
            let able : can_complete v.image (world_of v e.from) who ≡ true =
            ap (λ (m : ℕ). can_complete v.image (world_of v m) who) (sym at)
            ∙ ap (can_complete v.image (world_of v can.0.place)) (sym can.3)
            ∙ sym stand.can
            ∙ can.4 in
            completes_graph who (fair.words (taken_at v e) who (taken_edge e passes.1) due able);
      }

      pub blocked_world : (who : Step) → IsBlockedIn es who → world.IsBlockedIn v.image w round who
      blocked_world who blocked x there own =
          let e = edge_taken x there in
          let mine : e.0.step ≡ who = ap (λ (y : TakenStep). y.step) e.2 ∙ own in
          ap (λ (y : TakenStep). can_complete v.image y.world who) (sym e.2)
          ∙ sym (edge_completes e.0 who e.1 mine)
          ∙ blocked e.0 e.1 mine

      pub blocked_graph : (who : Step) → world.IsBlockedIn v.image w round who → IsBlockedIn es who
      blocked_graph who blocked e there own =
          edge_completes e who there own ∙ blocked (taken_at v e) (taken_edge e there) own

      -- each step is one of a stream that runs
      pub run_world : (x : TakenStep) → Contains (taken v.image w round) x → IsTrue (runs_in x.world x.step)
      run_world x there =
          let e = edge_taken x there in
          subst (λ (y : TakenStep). IsTrue (runs_in y.world y.step)) e.2 (step_edge e.0 e.1).runs

    -- From the program to the graph, where each place is marked of whose world something holds.

    module _ (P : World → Type 0) (held : (k : ℕ) → k < count v → P (world_of v k) → IsIn marks k) where
      -- a schedule as a walk
      pub record HasWalk (k j : ℕ) (ts : List Step) : Type 0 where
        pub es : List Edge
        pub walk : IsWalk edges marks k es j
        pub same : map step_of es ≡ ts

      pub walk_of : HasAllStates v → (ts : List Step) (k j : ℕ) → k < count v → j < count v
          → steps v.image (world_of v k) ts ≡ world_of v j
          → ((x : TakenStep) → Contains (taken v.image (world_of v k) ts) x → IsTrue (runs_in x.world x.step))
          → ((x : TakenStep) → Contains (taken v.image (world_of v k) ts) x → P x.world)
          → P (world_of v j) → HasWalk k j ts
      walk_of plain [] k j below within leads run stay last =
          record { es = []; walk = plain.distinct k j below within leads; same = refl }
      walk_of plain (t ∷ ts) k j below within leads run stay last =
          let here = world_of v k in
          let first : TakenStep = record { world = here; step = t } in
          let behind = taken v.image (after v.image here t) ts in
          let e = edge_here k t below (run first (head_in first behind)) in
          let edge = is.edges.sound e.0 e.1 in
          let to : world_of v e.0.to ≡ after v.image here t =
          edge.leads ∙ ap (λ (n : ℕ). after v.image (world_of v n) e.0.step) e.2 ∙ ap (after v.image here) e.3 in
          let inner : (x : TakenStep) → Contains (taken v.image (world_of v e.0.to) ts) x
          → Contains (taken v.image here (t ∷ ts)) x =
          λ x there. tail_in first x behind
          (subst (λ (y : World). Contains (taken v.image y ts) x) to there) in
          let on : steps v.image (world_of v e.0.to) ts ≡ world_of v j =
          ap (λ (y : World). steps v.image y ts) to ∙ leads in
          let next : P (world_of v e.0.to) =
          holds_first P v.image (world_of v e.0.to) ts (λ x there. stay x (inner x there)) (subst P (sym on) last) in
          let rest = walk_of plain ts e.0.to j edge.to within on (λ x there. run x (inner x there))
          (λ x there. stay x (inner x there)) last in
          record {
            es = e.0 ∷ rest.es;
            walk = (
              record {
                there = e.1;
                from_is = e.2;
                from_in = held k below (stay first (head_in first behind));
                to_in = held e.0.to edge.to next;
              },
              rest.walk,
            );
            same = ap (λ (u : Step). u ∷ map step_of rest.es) e.3 ∙ ap (λ (us : List Step). t ∷ us) rest.same;
          }

    module _ (who : Step) (at : AreMarksOf v rests who marks) where
      -- a round in which the stream starves
      pub starves_in : (es : List Edge) (k : ℕ) → graph.IsRound edges marks k es → graph.IsFairByWords dues es
          → IsBlockedIn es who → Starves v.image rests (world_of v k) who (map step_of es)
      starves_in es k around fair blocked = record {
        around = record {
          some = some_step es around.some;
          back = walk_leads es k k around.walk;
          run = run_world es k k around.walk;
        };
        fair = fair_world es k k around.walk fair;
        due = λ x there.
            let e = edge_taken es k k around.walk x there in
            let on = walk_on edges marks es k k e.0 around.walk e.1 in
            subst (λ (y : TakenStep). IsTrue (is_due rests y.world who)) e.2 (at.sound e.0.from (is.edges.sound e.0 on.is.there).from on.is.from_in);
        blocked = blocked_world es k k around.walk who blocked;
      }

      -- where no round of the graph starves the stream, none of the program does
      pub none_starves : HasAllStates v
          → ((k : ℕ) (es : List Edge) → graph.IsRound edges marks k es
          → ¬ (graph.IsFairByWords dues es × IsBlockedIn es who))
          → ¬ (CanWaitForEver v.image v.begin rests who)
      none_starves plain none can =
          let has = plain.complete can.0 in
          let k = has.0 in
          let starves : Starves v.image rests (world_of v k) who can.1 =
          subst (λ (y : World). Starves v.image rests y who can.1) (sym has.2) can.2 in
          let last : IsTrue (is_due rests (world_of v k) who) =
          first_due can.1 (world_of v k) starves in
          let walk = walk_of (λ (y : World). IsTrue (is_due rests y who)) at.all plain can.1 k k has.1 has.1 starves.around.back starves.around.run starves.due last in
          let same : Starves v.image rests (world_of v k) who (map step_of walk.es) =
          subst (Starves v.image rests (world_of v k) who) (sym walk.same) starves in
          none k walk.es
          (record { walk = walk.walk; some = some_edge walk.es can.1 walk.same starves.around.some })
          (fair_graph walk.es k k walk.walk same.fair, blocked_graph walk.es k k walk.walk who same.blocked) where
            first_due : (ts : List Step) (y : World) → Starves v.image rests y who ts → IsTrue (is_due rests y who)
            first_due [] y starves = let some = starves.around.some in absurd (omega (arith, some))
            first_due (t ∷ ts) y starves =
                starves.due (record { world = y; step = t })
                (head_in (record { world = y; step = t }) (taken v.image (after v.image y t) ts))
