-- Ways of the graph of a space are runs of its program, and the other way round.
use Rattle.std.proofs.Common.{◌≡◌, ℕ, ◌<◌, ◌≤◌, refl, sym, ap, ◌∙◌, subst, arith, Bool, true, false, not, ◌&&◌}
use Rattle.std.proofs.Common.{List, [], ◌∷◌, ◌++◌, map, length, Contains, append_assoc}
use Rattle.std.specs.Prelude.{IsTrue, Option, Some, None}
use Rattle.std.proofs.lemmas.Bool.{and_parts}
use Rattle.processor.specs.World.{World, steps, run, start}
use Rattle.processor.specs.declared.steps.Step.{Step}
use Rattle.processor.proofs.Histories.{steps-append}
use Rattle.waiting.specs.Running.{runs_in}
use Rattle.starving_streams.specs.ScheduleSpace.Spaces.{SpaceValue, count, schedule_of, world_of}
use Rattle.starving_streams.proofs.ScheduleSpace.Schedules.{goes_on}
use Rattle.starving_streams.specs.Claims.Holding.{form_holds}
use Rattle.fair_rounds.specs.declared.graphs.Edge.{Edge}
use Rattle.fair_rounds.specs.declared.graphs.Standing.{Standing}
use Rattle.fair_rounds.specs.declared.lassos.Lasso.{Lasso}
use Rattle.fair_rounds.specs.declared.lassos.Tail.{Tail}
use Rattle.fair_rounds.specs.declared.lassos.Tail.TheVariants as tail
use Rattle.fair_rounds.specs.Rounds.{IsIn, IsWalk}
use Rattle.fair_rounds.specs.Rounds as graph
use Rattle.fair_rounds.specs.Lassos.{IsTailAt, IsLasso, HasNoLasso}
use Rattle.fair_rounds.proofs.Starved.{runs_resting, resting_runs, fair_resting, resting_fair}
use Rattle.fair_rounds.proofs.Walks.{walk_on}
use Rattle.fair_rounds.proofs.Removal.{below_of}
use Rattle.starving_streams.specs.declared.graphs.Graph.{Graph}
use Rattle.starving_streams.specs.Starving.{TakenStep, IsRound}
use Rattle.starving_streams.specs.ClaimsTypes.Fairness.{Fairness}
use Rattle.starving_streams.specs.ClaimsTypes.Fairness.TheVariants as fairness
use Rattle.starving_streams.specs.Reports.{HasAllStates}
use Rattle.starving_streams.specs.Graphs.{IsGraph, step_of}
use Rattle.starving_streams.proofs.Rounds.{holds_first, walk_leads, edge_taken, run_world, fair_steps_world, fair_steps_graph, fair_world, fair_graph, walk_of, some_edge, some_step}
use Rattle.starving_streams.specs.ClaimsTypes.LeadsTo.{LeadsTo}
use Rattle.starving_streams.specs.ClaimsTypes.Rest.{Rest}
use Rattle.starving_streams.specs.Rests.{is_due}
use Rattle.run_answers.specs.declared.answers.RunAnswer.{RunAnswer}
use Rattle.run_answers.specs.declared.answers.RunAnswer.TheVariants as answer
use Rattle.run_answers.specs.declared.answers.RunEnd.{RunEnd}
use Rattle.run_answers.specs.declared.answers.RunEnd.TheVariants as end
use Rattle.run_answers.specs.Leading.{IsFair, Avoids, AreOfRunning, NeverHolds, Evades, Leads}
use Rattle.run_answers.specs.Answers.{round_of, is_open, IsLeadsAnswer}
use Rattle.run_answers.specs.Marks.{standings_for, AreConditionMarks, IsEndOf, IsShownAs}

off_of : (b : Bool) → not b ≡ true → b ≡ false
off_of true is = let off : ⊥ = cc in absurd off
off_of false is = refl

-- what follows a way is no open end
closed_end : (t : Tail) (r : RunEnd) → IsEndOf t r → is_open r ≡ false
closed_end tail.Stop end.Stops same = refl
closed_end tail.Stop (end.Repeats round) same = absurd same
closed_end tail.Stop end.Anything same = absurd same
closed_end (tail.Round es) end.Stops same = absurd same
closed_end (tail.Round es) (end.Repeats round) same = refl
closed_end (tail.Round es) end.Anything same = absurd same

-- a stream runs at a place among the standings for a fairness exactly if it does among all

stands_runs : (f : Fairness) (standings : List Standing) (k : ℕ) (who : Step) → graph.Runs (standings_for f standings) k who
    → graph.Runs standings k who
stands_runs fairness.ByWords standings k who runs = runs
stands_runs fairness.BySteps standings k who runs = resting_runs standings k who runs

runs_stands : (f : Fairness) (standings : List Standing) (k : ℕ) (who : Step) → graph.Runs standings k who
    → graph.Runs (standings_for f standings) k who
runs_stands fairness.ByWords standings k who runs = runs
runs_stands fairness.BySteps standings k who runs = runs_resting standings k who runs

module _ (v : SpaceValue) (g : Graph) (plain : HasAllStates v) (rests : List Rest) (is : IsGraph v rests g) (f : Fairness)
    (asked : LeadsTo) (within begins : List Bool) (are : AreConditionMarks v asked (count v) within begins) where
  abbrev edges : List Edge
  edges = g.edges.items

  abbrev standings : List Standing
  standings = standings_for f g.dues.items

  -- a walk that is a fair round among these standings is fair in the program, and the other way round

  fair_there : (e : Fairness) (es : List Edge) (k j : ℕ) → IsWalk edges within k es j
      → graph.IsFairByWords (standings_for e g.dues.items) es → IsFair v.image rests e (world_of v k) (map step_of es)
  fair_there fairness.ByWords es k j walk fair = fair_world v rests g is within es k j walk fair
  fair_there fairness.BySteps es k j walk fair =
      fair_steps_world v rests g is within es k j walk (fair_resting g.dues.items es fair)

  fair_here : (e : Fairness) (es : List Edge) (k j : ℕ) → IsWalk edges within k es j
      → IsFair v.image rests e (world_of v k) (map step_of es) → graph.IsFairByWords (standings_for e g.dues.items) es
  fair_here fairness.ByWords es k j walk fair = fair_graph v rests g is within es k j walk fair
  fair_here fairness.BySteps es k j walk fair =
      resting_fair g.dues.items es (fair_steps_graph v rests g is within es k j walk fair)

  -- the condition that has to come does not hold
  abbrev Lacks : World → Type 0
  Lacks w = form_holds w asked.to ≡ false

  -- What the marks say.

  place_in : (k : ℕ) → IsIn within k → k < count v
  place_in k there = subst (λ (n : ℕ). k < n) are.lacking.many (below_of within k there)

  lacks_at : (k : ℕ) → IsIn within k → Lacks (world_of v k)
  lacks_at k there =
      off_of (form_holds (world_of v k) asked.to) (sym (are.lacking.each k (place_in k there)) ∙ there)

  held_within : (k : ℕ) → k < count v → Lacks (world_of v k) → IsIn within k
  held_within k below lacks = are.lacking.each k below ∙ ap not lacks

  begin_open : (k : ℕ) → IsIn begins k
      → (not (form_holds (world_of v k) asked.to) ≡ true) × (form_holds (world_of v k) asked.from ≡ true)
  begin_open k there =
      let below : k < count v = subst (λ (n : ℕ). k < n) are.opening.many (below_of begins k there) in
      and_parts (not (form_holds (world_of v k) asked.to)) (form_holds (world_of v k) asked.from)
      (sym (are.opening.each k below) ∙ there)

  begin_in : (k : ℕ) → IsIn begins k → IsIn within k
  begin_in k there =
      let below : k < count v = subst (λ (n : ℕ). k < n) are.opening.many (below_of begins k there) in
      are.lacking.each k below ∙ (begin_open k there).0

  open_begin : (k : ℕ) → k < count v → Lacks (world_of v k) → form_holds (world_of v k) asked.from ≡ true → IsIn begins k
  open_begin k below lacks holds = are.opening.each k below ∙ (λ i. not (lacks i) && holds i)

  -- From the graph to the program.

  walk_end : (es : List Edge) (k j : ℕ) → IsIn within k → IsWalk edges within k es j → IsIn within j
  walk_end [] k j here walk = subst (IsIn within) walk here
  walk_end (e ∷ es) k j here walk = walk_end es e.to j walk.0.to_in walk.1

  avoids_walk : (es : List Edge) (k j : ℕ) → IsIn within k → IsWalk edges within k es j
      → Avoids v.image (world_of v k) (map step_of es) asked.to
  avoids_walk es k j here walk = record {
    before = λ x there.
        let e = edge_taken v rests g is within es k j walk x there in
        let on = walk_on edges within es k j e.0 walk e.1 in
        subst (λ (y : TakenStep). Lacks y.world) e.2 (lacks_at e.0.from on.is.from_in);
    after =
        ap (λ (w : World). form_holds w asked.to) (walk_leads v rests g is within es k j walk)
        ∙ lacks_at j (walk_end es k j here walk);
  }

  never_at : (t : Tail) (r : RunEnd) (j : ℕ) → IsEndOf t r → IsTailAt edges standings within j t → IsIn within j
      → NeverHolds v.image rests f (world_of v j) asked.to (round_of r)
  never_at tail.Stop end.Stops j same stop there =
      λ who due. stop who (runs_stands f g.dues.items j who (is.dues.all j who (place_in j there) due))
  never_at tail.Stop (end.Repeats round) j same follows there = absurd same
  never_at tail.Stop end.Anything j same follows there = absurd same
  never_at (tail.Round es) end.Stops j same follows there = absurd same
  never_at (tail.Round es) end.Anything j same follows there = absurd same
  never_at (tail.Round es) (end.Repeats round) j same follows there =
      let around = follows.0 in
      subst (λ (ts : List Step). IsRound v.image (world_of v j) ts × IsFair v.image rests f (world_of v j) ts
      × Avoids v.image (world_of v j) ts asked.to) (sym same) (
        record {
          some = some_step es.items around.some;
          back = walk_leads v rests g is within es.items j j around.walk;
          run = run_world v rests g is within es.items j j around.walk;
        },
        fair_there f es.items j j around.walk follows.1,
        avoids_walk es.items j j there around.walk,
      )

  -- the run that is shown
  pub shown_as : (l : Lasso) → IsLasso edges standings within begins l → (a : RunAnswer) → IsShownAs v l a
      → IsLeadsAnswer v.image v.begin rests f asked a
  shown_as l lasso (answer.Evaded r) (below, stem, way, ends, earlier) = record {
    stem = record {
      begins = (on.0, stem ∙ on.1);
      shortest = λ ts same.
          subst (λ (us : List Step). length us ≤ length (v.begin ++ ts)) (sym stem)
          (plain.shortest l.begin below ts (same ∙ ap (run v.image) stem));
    };
    evaded = record { evades = evades; ends = closed_end l.tail r.end ends };
  } where
    here : IsIn within l.begin
    here = begin_in l.begin lasso.begins_at

    on : (more : List Step) × (schedule_of v l.begin ≡ v.begin ++ more)
    on = goes_on v.begin v.links (length v.links) l.begin earlier (omega (arith, below)) (omega (arith, below))

    evades : Evades v.image rests f asked r.stem.items r.way.items (round_of r.end)
    evades =
        subst (λ (ts : List Step). Evades v.image rests f asked ts r.way.items (round_of r.end)) (sym stem)
        (subst (λ (ts : List Step). Evades v.image rests f asked (schedule_of v l.begin) ts (round_of r.end)) (sym way) (record {
          holds = (begin_open l.begin lasso.begins_at).1;
          of_running = run_world v rests g is within l.way.items l.begin l.place lasso.walk;
          avoids = avoids_walk l.way.items l.begin l.place here lasso.walk;
          never =
              subst (λ (w : World). NeverHolds v.image rests f w asked.to (round_of r.end))
              (sym (walk_leads v rests g is within l.way.items l.begin l.place lasso.walk))
              (never_at l.tail r.end l.place ends lasso.follows (walk_end l.way.items l.begin l.place here lasso.walk));
        }))
  shown_as l lasso answer.Kept never = absurd never
  shown_as l lasso answer.Undecided known = known

  -- From the program to the graph.

  module _ (none : HasNoLasso edges standings within begins) (stem way : List Step) where
    -- no way to a place, from a world where the first condition holds, is followed by what evades the other one
    none_at : (k j : ℕ) → k < count v → j < count v → (round : Option (List Step))
        → form_holds (world_of v k) asked.from ≡ true → AreOfRunning v.image (world_of v k) way
        → Avoids v.image (world_of v k) way asked.to → steps v.image (world_of v k) way ≡ world_of v j
        → NeverHolds v.image rests f (world_of v j) asked.to round → ⊥
    none_at k j below within_count round holds running avoids leads never = by_round round never where
      first : Lacks (world_of v k)
      first = holds_first Lacks v.image (world_of v k) way avoids.before avoids.after

      last : Lacks (world_of v j)
      last = ap (λ (w : World). form_holds w asked.to) (sym leads) ∙ avoids.after

      got : ¬ ((who : Step) → ¬ ((s : Standing) × Contains standings s × (s.place ≡ j) × (s.step ≡ who)))
          × ((es : List Edge) → graph.IsRound edges within j es → ¬ (graph.IsFairByWords standings es))
      got =
          let walk = walk_of v rests g is within Lacks held_within plain way k j below within_count leads running avoids.before last in
          none k walk.es j (open_begin k below first holds) walk.walk

      by_round : (r : Option (List Step)) → NeverHolds v.image rests f (world_of v j) asked.to r → ⊥
      by_round None nothing = got.0 (λ who stands.
          let runs = stands_runs f g.dues.items j who stands in
          let stand = is.dues.sound runs.0 runs.1 in
          nothing who
          (subst (λ (n : ℕ). IsTrue (is_due rests (world_of v n) who)) runs.2
          (subst (λ (t : Step). IsTrue (is_due rests (world_of v runs.0.place) t)) runs.3 stand.due)))
      by_round (Some ts) (around, fair, on) =
          let back : Lacks (world_of v j) = ap (λ (w : World). form_holds w asked.to) (sym around.back) ∙ on.after in
          let walk = walk_of v rests g is within Lacks held_within plain ts j j within_count within_count around.back around.run on.before back in
          got.1 walk.es (record { walk = walk.walk; some = some_edge walk.es ts walk.same around.some })
          (fair_here f walk.es j j walk.walk (subst (IsFair v.image rests f (world_of v j)) (sym walk.same) fair))

  pub leads_by : HasNoLasso edges standings within begins → Leads v.image v.begin rests f asked
  leads_by none (stem, way, round, evades) =
      let has = plain.complete stem in
      let to = plain.complete (stem ++ way) in
      let on : run v.image (v.begin ++ (stem ++ way)) ≡ steps v.image (run v.image (v.begin ++ stem)) way =
      ap (run v.image) (sym (append_assoc v.begin stem way))
      ∙ steps-append v.image (start v.image) (v.begin ++ stem) way in
      let leads : steps v.image (world_of v has.0) way ≡ world_of v to.0 =
      ap (λ (w : World). steps v.image w way) has.2 ∙ sym on ∙ sym to.2 in
      none_at none stem way has.0 to.0 has.1 to.1 round
      (ap (λ (w : World). form_holds w asked.from) has.2 ∙ evades.holds)
      (subst (λ (w : World). AreOfRunning v.image w way) (sym has.2) evades.of_running)
      (subst (λ (w : World). Avoids v.image w way asked.to) (sym has.2) evades.avoids) leads
      (subst (λ (w : World). NeverHolds v.image rests f w asked.to round) leads
      (subst (λ (w : World). NeverHolds v.image rests f (steps v.image w way) asked.to round) (sym has.2) evades.never))
