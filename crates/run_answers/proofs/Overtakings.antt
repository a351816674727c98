-- Ways of the graph of a space on which a stream is overtaken are runs of its program, and the other way round.
use Rattle.std.proofs.Common.{◌≡◌, inl, inr, ℕ, ◌+◌, ◌<◌, ◌≤◌, refl, sym, ap, ◌∙◌, subst, arith, Bool, true, false, not, ◌&&◌, if◌then◌else◌}
use Rattle.std.proofs.Common.{List, [], ◌∷◌, ◌++◌, map, filter, length, Contains, append_assoc, slice_index_or}
use Rattle.std.specs.List.{list_any}
use Rattle.std.proofs.lemmas.Bool.{cases_Bool, and_parts}
use Rattle.processor.specs.World.{World, after, steps, run, start}
use Rattle.processor.specs.declared.steps.Step.{Step}
use Rattle.processor.proofs.Histories.{steps-append}
use Rattle.starving_streams.specs.ScheduleSpace.Spaces.{SpaceValue, count, schedule_of, world_of}
use Rattle.starving_streams.proofs.ScheduleSpace.Schedules.{goes_on}
use Rattle.starving_streams.specs.Claims.Holding.{form_holds}
use Rattle.fair_rounds.specs.declared.entries.EnteringWay.{EnteringWay}
use Rattle.fair_rounds.specs.declared.graphs.Edge.{Edge}
use Rattle.fair_rounds.specs.Classes.{is_of}
use Rattle.fair_rounds.specs.Rounds.{IsIn, IsWalk}
use Rattle.fair_rounds.specs.Entries.{is_entry, entries, Enters, EntersAtMost}
use Rattle.fair_rounds.proofs.Bypassing.{inside_by}
use Rattle.fair_rounds.proofs.Lists.{apart, none_here, step_same}
use Rattle.fair_rounds.proofs.Walks.{walk_on}
use Rattle.fair_rounds.proofs.Removal.{below_of}
use Rattle.starving_streams.specs.declared.graphs.Graph.{Graph}
use Rattle.starving_streams.specs.Starving.{TakenStep}
use Rattle.starving_streams.specs.Reports.{HasAllStates}
use Rattle.starving_streams.specs.Graphs.{IsGraph, step_of}
use Rattle.starving_streams.proofs.Rounds.{walk_leads, edge_taken, run_world, walk_of}
use Rattle.starving_streams.specs.ClaimsTypes.Overtaking.{Overtaking}
use Rattle.starving_streams.specs.ClaimsTypes.Rest.{Rest}
use Rattle.run_answers.specs.declared.answers.RunAnswer.{RunAnswer}
use Rattle.run_answers.specs.declared.answers.RunAnswer.TheVariants as answer
use Rattle.run_answers.specs.Leading.{AreOfRunning}
use Rattle.run_answers.specs.Overtaking.{comes, arrivals, Stays, IsOvertaken, IsBounded}
use Rattle.run_answers.specs.Answers.{IsOvertakingAnswer}
use Rattle.run_answers.specs.Waiting.{AreWaitingMarks, steps_elsewhere, AreStepTargets, IsShownAfter}

-- an edge of which it is not so that it leads elsewhere
pub targets_by : (edges : List Edge) (set begins : List Bool) (who : Step)
    → list_any (steps_elsewhere set begins who) edges ≡ false → AreStepTargets edges set who begins
targets_by edges set begins who none e there inside mine = elim (cases_Bool (slice_index_or begins e.to false)) [
  | inl begun ↦ begun
  | inr out ↦
      let own : is_of who e ≡ true = step_same who e.step mine in
      absurd (apart (steps_elsewhere set begins who e) (none_here (steps_elsewhere set begins who) edges e none there)
      (λ i. inside i && own i && not (out i)))
]

-- the parts of a list of steps
first_or : Step → List Step → Step
first_or d [] = d
first_or d (t ∷ ts) = t

rest_of : List Step → List Step
rest_of [] = []
rest_of (t ∷ ts) = ts

-- an edge that comes in counts once
counted : (inside : List Bool) (e : Edge) (es : List Edge) (b : Bool) → is_entry inside e ≡ b
    → entries inside (e ∷ es) ≡ (if b then 1 else 0) + entries inside es
counted inside e es true is =
    ap (λ (c : Bool). length (if c then e ∷ filter (is_entry inside) es else filter (is_entry inside) es)) is ∙ omega arith
counted inside e es false is =
    ap (λ (c : Bool). length (if c then e ∷ filter (is_entry inside) es else filter (is_entry inside) es)) is ∙ omega arith

module _ (v : SpaceValue) (g : Graph) (plain : HasAllStates v) (rests : List Rest) (is : IsGraph v rests g) (asked : Overtaking)
    (waits inside : List Bool) (are : AreWaitingMarks v asked (count v) waits inside) where
  abbrev edges : List Edge
  edges = g.edges.items

  -- the stream waits
  abbrev Waits : World → Type 0
  Waits w = form_holds w asked.waits ≡ true

  -- What the marks say.

  place_in : (k : ℕ) → IsIn waits k → k < count v
  place_in k there = subst (λ (n : ℕ). k < n) are.waiting.many (below_of waits k there)

  waits_at : (k : ℕ) → IsIn waits k → Waits (world_of v k)
  waits_at k there = sym (are.waiting.each k (place_in k there)) ∙ there

  held_within : (k : ℕ) → k < count v → Waits (world_of v k) → IsIn waits k
  held_within k below holds = are.waiting.each k below ∙ holds

  -- an edge comes in exactly where the condition comes to hold
  entry_is : (e : Edge) → Contains edges e
      → is_entry inside e ≡ comes asked.inside (world_of v e.from) (after v.image (world_of v e.from) e.step)
  entry_is e there =
      let edge = is.edges.sound e there in
      let from = are.entered.each e.from edge.from in
      let to = are.entered.each e.to edge.to ∙ ap (λ (w : World). form_holds w asked.inside) edge.leads in
      λ i. not (from i) && to i

  walk_end : (es : List Edge) (k j : ℕ) → IsIn waits k → IsWalk edges waits k es j → IsIn waits j
  walk_end [] k j here walk = subst (IsIn waits) walk here
  walk_end (e ∷ es) k j here walk = walk_end es e.to j walk.0.to_in walk.1

  stays_walk : (es : List Edge) (k j : ℕ) → IsIn waits k → IsWalk edges waits k es j
      → Stays v.image (world_of v k) (map step_of es) asked.waits
  stays_walk es k j here walk = record {
    before = λ x there.
        let e = edge_taken v rests g is waits es k j walk x there in
        let on = walk_on edges waits es k j e.0 walk e.1 in
        subst (λ (y : TakenStep). Waits y.world) e.2 (waits_at e.0.from on.is.from_in);
    after =
        ap (λ (w : World). form_holds w asked.waits) (walk_leads v rests g is waits es k j walk)
        ∙ waits_at j (walk_end es k j here walk);
  }

  -- as many edges come in as the condition comes to hold times
  arrivals_walk : (es : List Edge) (k j : ℕ) → IsWalk edges waits k es j
      → arrivals v.image (world_of v k) (map step_of es) asked.inside ≡ entries inside es
  arrivals_walk [] k j walk = refl
  arrivals_walk (e ∷ es) k j walk =
      let one = is.edges.sound e walk.0.there in
      let at : world_of v k ≡ world_of v e.from = ap (world_of v) (sym walk.0.from_is) in
      ap (λ (w : World). arrivals v.image w (e.step ∷ map step_of es) asked.inside) at
      ∙ ap (λ (b : Bool). (if b then 1 else 0) + arrivals v.image (after v.image (world_of v e.from) e.step) (map step_of es) asked.inside)
      (sym (entry_is e walk.0.there))
      ∙ ap (λ (w : World). (if is_entry inside e then 1 else 0) + arrivals v.image w (map step_of es) asked.inside) (sym one.leads)
      ∙ ap (λ (n : ℕ). (if is_entry inside e then 1 else 0) + n) (arrivals_walk es e.to j walk.1)
      ∙ sym (counted inside e es (is_entry inside e) refl)

  -- it is overtaken, where the first step is the stream's by another name
  overtaken_by : (stem more : List Step) (t : Step) → t ≡ asked.who → AreOfRunning v.image (run v.image stem) (t ∷ more)
      → Stays v.image (run v.image stem) (t ∷ more) asked.waits
      → asked.most < arrivals v.image (after v.image (run v.image stem) t) more asked.inside
      → IsOvertaken v.image asked stem more
  overtaken_by stem more t same running stays often = record {
    of_running = subst (λ (u : Step). AreOfRunning v.image (run v.image stem) (u ∷ more)) same running;
    waits = subst (λ (u : Step). Stays v.image (run v.image stem) (u ∷ more) asked.waits) same stays;
    often =
        subst (λ (u : Step). asked.most < arrivals v.image (after v.image (run v.image stem) u) more asked.inside) same often;
  }

  -- the run that is shown
  pub shown_as : (begins : List Bool) (w : EnteringWay) → Enters edges waits begins inside asked.most w → (a : RunAnswer)
      → IsShownAfter v edges waits asked.who w a → IsOvertakingAnswer v.image v.begin rests asked a
  shown_as begins w enters (answer.Evaded r) (e, first, (below, stem, way, anything, earlier)) = record {
    stem = record {
      begins = (on.0, stem ∙ on.1);
      shortest = λ ts same.
          subst (λ (us : List Step). length us ≤ length (v.begin ++ ts)) (sym stem)
          (plain.shortest e.from below ts (same ∙ ap (run v.image) stem));
    };
    evaded = record {
      overtaken = (
        map step_of w.edges.items,
        way ∙ ap (λ (t : Step). t ∷ map step_of w.edges.items) first.step,
        subst (λ (ts : List Step). IsOvertaken v.image asked ts (map step_of w.edges.items)) (sym stem)
            shows,
      );
      anything = anything;
    };
  } where
    ends : (slice_index_or waits e.from false ≡ true) × (slice_index_or waits e.to false ≡ true)
    ends = and_parts (slice_index_or waits e.from false) (slice_index_or waits e.to false) first.inside

    on : (more : List Step) × (schedule_of v e.from ≡ v.begin ++ more)
    on = goes_on v.begin v.links (length v.links) e.from earlier (omega (arith, below)) (omega (arith, below))

    rest : IsWalk edges waits e.to w.edges.items w.place
    rest = subst (λ (k : ℕ). IsWalk edges waits k w.edges.items w.place) (sym first.to) enters.walk

    whole : IsWalk edges waits e.from (e ∷ w.edges.items) w.place
    whole = (record { there = first.there; from_is = refl; from_in = ends.0; to_in = ends.1 }, rest)

    more : List Step
    more = map step_of w.edges.items

    here : World
    here = world_of v e.from

    shows : IsOvertaken v.image asked (schedule_of v e.from) more
    shows = overtaken_by (schedule_of v e.from) more e.step first.step
        (run_world v rests g is waits (e ∷ w.edges.items) e.from w.place whole)
        (stays_walk (e ∷ w.edges.items) e.from w.place ends.0 whole)
        (subst (λ (u : World). asked.most < arrivals v.image u more asked.inside) (is.edges.sound e first.there).leads
        (subst (λ (n : ℕ). asked.most < n) (sym (arrivals_walk w.edges.items e.to w.place rest)) enters.more))
  shown_as begins w enters answer.Kept never = absurd never
  shown_as begins w enters answer.Undecided known = known

  -- From the program to the graph.

  module _ (begins : List Bool) (targets : AreStepTargets edges waits asked.who begins)
      (few : EntersAtMost edges waits begins inside asked.most) where
    -- no walk that begins with a step of the stream shows that it is overtaken too often
    no_walk : (es : List Edge) (k j : ℕ) (more : List Step) → IsWalk edges waits k es j → map step_of es ≡ asked.who ∷ more
        → asked.most < arrivals v.image (after v.image (world_of v k) asked.who) more asked.inside → ⊥
    unfolding first_or rest_of
    no_walk [] k j more walk same often = let off : ⊥ = cc in off
    no_walk (e ∷ es) k j more walk same often =
        let mine : e.step ≡ asked.who = ap (first_or asked.who) same in
        let rest : map step_of es ≡ more = ap rest_of same in
        let begun = targets e walk.0.there (inside_by edges waits e k walk.0) mine in
        let most = few e.to es j begun walk.1 in
        let from : world_of v e.from ≡ world_of v k = ap (world_of v) walk.0.from_is in
        let to : world_of v e.to ≡ after v.image (world_of v k) asked.who =
        (is.edges.sound e walk.0.there).leads
        ∙ ap (λ (w : World). after v.image w e.step) from
        ∙ ap (after v.image (world_of v k)) mine in
        let same_often : arrivals v.image (after v.image (world_of v k) asked.who) more asked.inside ≡ entries inside es =
        ap (λ (w : World). arrivals v.image w more asked.inside) (sym to)
        ∙ ap (λ (ts : List Step). arrivals v.image (world_of v e.to) ts asked.inside) (sym rest)
        ∙ arrivals_walk es e.to j walk.1 in
        omega (arith, most, often, same_often)

    pub bounded_by : IsBounded v.image v.begin asked
    bounded_by (stem, more, over) =
        let ts : List Step = asked.who ∷ more in
        let has = plain.complete stem in
        let to = plain.complete (stem ++ ts) in
        let on : run v.image (v.begin ++ (stem ++ ts)) ≡ steps v.image (run v.image (v.begin ++ stem)) ts =
        ap (run v.image) (sym (append_assoc v.begin stem ts))
        ∙ steps-append v.image (start v.image) (v.begin ++ stem) ts in
        let leads : steps v.image (world_of v has.0) ts ≡ world_of v to.0 =
        ap (λ (w : World). steps v.image w ts) has.2 ∙ sym on ∙ sym to.2 in
        let running = subst (λ (w : World). AreOfRunning v.image w ts) (sym has.2) over.of_running in
        let stays = subst (λ (w : World). Stays v.image w ts asked.waits) (sym has.2) over.waits in
        let last : Waits (world_of v to.0) = ap (λ (w : World). form_holds w asked.waits) (sym leads) ∙ stays.after in
        let walk = walk_of v rests g is waits Waits held_within plain ts has.0 to.0 has.1 to.1 leads running stays.before last in
        no_walk walk.es has.0 to.0 more walk.walk walk.same
        (subst (λ (w : World). asked.most < arrivals v.image (after v.image w asked.who) more asked.inside) (sym has.2)
        over.often)
