-- Marks of the places of a space by what holds of their worlds.
use Rattle.std.specs.Prelude.{◌≡◌, ◌&&◌, not, ℕ, ◌<◌, Bool, false, List, map, length, slice_index_or}
use Rattle.processor.specs.World.{World}
use Rattle.starving_streams.specs.ScheduleSpace.Spaces.{SpaceValue, count, schedule_of, world_of, HasEarlierLinks}
use Rattle.starving_streams.specs.Claims.Holding.{form_holds}
use Rattle.fair_rounds.specs.Starving.{at_rest}
use Rattle.fair_rounds.specs.declared.graphs.Standing.{Standing}
use Rattle.starving_streams.specs.ClaimsTypes.Fairness.{Fairness}
use Rattle.starving_streams.specs.ClaimsTypes.Fairness.TheVariants as fairness
use Rattle.fair_rounds.specs.declared.lassos.Lasso.{Lasso}
use Rattle.fair_rounds.specs.declared.lassos.Tail.{Tail}
use Rattle.fair_rounds.specs.declared.lassos.Tail.TheVariants as tail
use Rattle.starving_streams.specs.Graphs.{step_of}
use Rattle.starving_streams.specs.ClaimsTypes.LeadsTo.{LeadsTo}
use Rattle.run_answers.specs.declared.answers.RunAnswer.{RunAnswer}
use Rattle.run_answers.specs.declared.answers.RunAnswer.TheVariants as answer
use Rattle.run_answers.specs.declared.answers.RunEnd.{RunEnd}
use Rattle.run_answers.specs.declared.answers.RunEnd.TheVariants as end

-- the standings among which a round that is fair by words is fair as is asked
abbrev pub standings_for : Fairness → List Standing → List Standing
standings_for fairness.ByWords standings = standings
standings_for fairness.BySteps standings = map at_rest standings

-- whether the condition that has to come does not hold of a world
abbrev pub lacks : LeadsTo → World → Bool
lacks asked w = not (form_holds w asked.to)

-- whether that is so, and the first condition holds
abbrev pub is_open : LeadsTo → World → Bool
is_open asked w = lacks asked w && form_holds w asked.from

-- For each of the first so many places there is a mark, set exactly if that is so of its world.
pub record AreMarksOf (v : SpaceValue) (n : ℕ) (f : World → Bool) (marks : List Bool) : Type 0 where
  pub many : length marks ≡ n
  pub each : (k : ℕ) → k < n → slice_index_or marks k false ≡ f (world_of v k)

-- They mark the places at which the condition that has to come does not hold, and those of them at which the first one does.
pub record AreConditionMarks (v : SpaceValue) (asked : LeadsTo) (n : ℕ) (within begins : List Bool) : Type 0 where
  pub lacking : AreMarksOf v n (lacks asked) within
  pub opening : AreMarksOf v n (is_open asked) begins

-- the end of a run is what follows a way of the graph
abbrev pub IsEndOf : Tail → RunEnd → Type 0
IsEndOf tail.Stop end.Stops = Unit {0}
IsEndOf tail.Stop (end.Repeats round) = ⊥
IsEndOf tail.Stop end.Anything = ⊥
IsEndOf (tail.Round es) end.Stops = ⊥
IsEndOf (tail.Round es) (end.Repeats round) = round.items ≡ map step_of es.items
IsEndOf (tail.Round es) end.Anything = ⊥

-- a run is shown that is this way of the graph, or nothing is said
abbrev pub IsShownAs : SpaceValue → Lasso → RunAnswer → Type 0
IsShownAs v l (answer.Evaded r) =
    (l.begin < count v)
    × (r.stem.items ≡ schedule_of v l.begin)
    × (r.way.items ≡ map step_of l.way.items)
    × IsEndOf l.tail r.end
    × HasEarlierLinks v
IsShownAs v l answer.Kept = ⊥
IsShownAs v l answer.Undecided = Unit {0}
