-- Ways within a set that end where no stream runs, or in a fair round.
use Rattle.std.specs.Prelude.{◌≡◌, ◌&&◌, not, ℕ, Bool, false, IsTrue, List, Contains, slice_index_or}
use Rattle.processor.specs.declared.steps.Step.{Step}
use Rattle.fair_rounds.specs.declared.graphs.Edge.{Edge}
use Rattle.fair_rounds.specs.declared.graphs.Standing.{Standing}
use Rattle.fair_rounds.specs.declared.lassos.Lasso.{Lasso}
use Rattle.fair_rounds.specs.declared.lassos.LassoAnswer.{LassoAnswer}
use Rattle.fair_rounds.specs.declared.lassos.LassoAnswer.TheVariants as answer
use Rattle.fair_rounds.specs.declared.lassos.Tail.{Tail}
use Rattle.fair_rounds.specs.declared.lassos.Tail.TheVariants as tail
use Rattle.fair_rounds.specs.Rounds.{IsIn, IsWalk, IsRound, IsFairByWords, Runs}
use Rattle.fair_rounds.specs.Classes.{is_inside}

-- no stream runs at the place
abbrev pub IsStop : List Standing → ℕ → Type 0
IsStop standings k = (who : Step) → ¬ (Runs standings k who)

-- what follows at the place: no stream runs there, or a round within the set that is fair by words comes back to it
abbrev pub IsTailAt : List Edge → List Standing → List Bool → ℕ → Tail → Type 0
IsTailAt edges standings set k tail.Stop = IsStop standings k
IsTailAt edges standings set k (tail.Round es) = IsRound edges set k es.items × IsFairByWords standings es.items

-- A way within the set leads from one of the places to another place, and that follows there.
pub record IsLasso (edges : List Edge) (standings : List Standing) (set begins : List Bool) (l : Lasso) : Type 0 where
  pub begins_at : IsIn begins l.begin
  pub walk : IsWalk edges set l.begin l.way.items l.place
  pub follows : IsTailAt edges standings set l.place l.tail

-- wherever a way within the set leads from one of the places, some stream runs, and no round within the set is fair by words
abbrev pub HasNoLasso : List Edge → List Standing → List Bool → List Bool → Type 0
HasNoLasso edges standings set begins =
    (k : ℕ) (way : List Edge) (to : ℕ) → IsIn begins k → IsWalk edges set k way to
    → ¬ (IsStop standings to) × ((round : List Edge) → IsRound edges set to round → ¬ (IsFairByWords standings round))

-- what an answer says: it shows one, or there is none, or it says nothing
abbrev pub IsLassoAnswer : List Edge → List Standing → List Bool → List Bool → LassoAnswer → Type 0
IsLassoAnswer edges standings set begins (answer.Found l) = IsLasso edges standings set begins l
IsLassoAnswer edges standings set begins answer.Absent = HasNoLasso edges standings set begins
IsLassoAnswer edges standings set begins answer.Undecided = Unit {0}

-- Cited by private contracts alone.

-- each number that is marked in one list is marked in the other
abbrev pub AreAmong : List Bool → List Bool → Type 0
AreAmong marks others = (k : ℕ) → IsIn marks k → IsIn others k

-- whether the edge within the set leads from a marked place to one that is not
abbrev pub leads_out : List Bool → List Bool → Edge → Bool
leads_out set marks e = is_inside set e && (slice_index_or marks e.from false && not (slice_index_or marks e.to false))

-- The marks are of places of the set, the places to begin from among them, and no edge within the set leads out of them.
pub record IsClosed (edges : List Edge) (set begins marks : List Bool) : Type 0 where
  pub within : AreAmong marks set
  pub begun : AreAmong begins marks
  pub stays : (e : Edge) → Contains edges e → IsTrue (is_inside set e) → IsIn marks e.from → IsIn marks e.to

-- What is shown of a way to a place with this tail: one leads there, or nothing is said.
abbrev pub IsShownWay : List Edge → List Bool → List Bool → ℕ → Tail → LassoAnswer → Type 0
IsShownWay edges set begins k t (answer.Found l) =
    IsIn begins l.begin × IsWalk edges set l.begin l.way.items l.place × (l.place ≡ k) × (l.tail ≡ t)
IsShownWay edges set begins k t answer.Absent = ⊥
IsShownWay edges set begins k t answer.Undecided = Unit {0}
