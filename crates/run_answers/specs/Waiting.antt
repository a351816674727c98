-- Marks of the places of a space at which a stream waits and is overtaken, and runs that are shown by them.
use Rattle.std.specs.Prelude.{◌≡◌, ◌&&◌, not, ℕ, ◌<◌, Bool, false, true, IsTrue, List, ◌∷◌, map, slice_index_or, Contains}
use Rattle.processor.specs.World.{World}
use Rattle.processor.specs.declared.steps.Step.{Step}
use Rattle.starving_streams.specs.Claims.Holding.{form_holds}
use Rattle.starving_streams.specs.ClaimsTypes.ClaimForm.{ClaimForm}
use Rattle.fair_rounds.specs.Classes.{is_inside, is_of}
use Rattle.fair_rounds.specs.Rounds.{IsIn}
use Rattle.fair_rounds.specs.declared.entries.EnteringWay.{EnteringWay}
use Rattle.fair_rounds.specs.declared.graphs.Edge.{Edge}
use Rattle.starving_streams.specs.Graphs.{step_of}
use Rattle.starving_streams.specs.ScheduleSpace.Spaces.{SpaceValue, count, schedule_of, HasEarlierLinks}
use Rattle.starving_streams.specs.ClaimsTypes.Overtaking.{Overtaking}
use Rattle.run_answers.specs.Answers.{is_open}
use Rattle.run_answers.specs.Marks.{AreMarksOf}
use Rattle.run_answers.specs.declared.answers.RunAnswer.{RunAnswer}
use Rattle.run_answers.specs.declared.answers.RunAnswer.TheVariants as answer

-- whether a condition holds of a world
abbrev pub holds : ClaimForm → World → Bool
holds c w = form_holds w c

-- They mark the places at which the stream waits, and those at which the other condition holds.
pub record AreWaitingMarks (v : SpaceValue) (asked : Overtaking) (n : ℕ) (waits inside : List Bool) : Type 0 where
  pub waiting : AreMarksOf v n (holds asked.waits) waits
  pub entered : AreMarksOf v n (holds asked.inside) inside

-- whether the edge within the set is a step of the stream and leads to no place from which ways begin
abbrev pub steps_elsewhere : List Bool → List Bool → Step → Edge → Bool
steps_elsewhere set begins who e = is_inside set e && is_of who e && not (slice_index_or begins e.to false)

-- each step of the stream within the set leads to a place from which ways begin
abbrev pub AreStepTargets : List Edge → List Bool → Step → List Bool → Type 0
AreStepTargets edges set who begins =
    (e : Edge) → Contains edges e → IsTrue (is_inside set e) → e.step ≡ who → IsIn begins e.to

-- The edge is a step of the stream within the set, and leads to the place.
pub record IsStepTo (edges : List Edge) (set : List Bool) (who : Step) (k : ℕ) (e : Edge) : Type 0 where
  pub there : Contains edges e
  pub inside : IsTrue (is_inside set e)
  pub step : e.step ≡ who
  pub to : e.to ≡ k

-- a run is shown that is this step and then this way of the graph, or nothing is said
abbrev pub IsShownOvertaking : SpaceValue → Edge → EnteringWay → RunAnswer → Type 0
IsShownOvertaking v e w (answer.Evaded r) =
    (e.from < count v)
    × (r.stem.items ≡ schedule_of v e.from)
    × (r.way.items ≡ step_of e ∷ map step_of w.edges.items)
    × (is_open r.end ≡ true)
    × HasEarlierLinks v
IsShownOvertaking v e w answer.Kept = ⊥
IsShownOvertaking v e w answer.Undecided = Unit {0}

-- a step to where the way begins was found, and that run is shown, or nothing is said
abbrev pub IsShownAfter : SpaceValue → List Edge → List Bool → Step → EnteringWay → RunAnswer → Type 0
IsShownAfter v edges set who w (answer.Evaded r) =
    (e : Edge) × IsStepTo edges set who w.begin e × IsShownOvertaking v e w (answer.Evaded r)
IsShownAfter v edges set who w answer.Kept = ⊥
IsShownAfter v edges set who w answer.Undecided = Unit {0}
