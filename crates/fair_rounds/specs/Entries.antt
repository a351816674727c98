-- Ways within a set of places that come into other places again and again.
use Rattle.std.specs.Prelude.{◌&&◌, not, ℕ, ◌≤◌, ◌<◌, Bool, false, IsTrue, List, Contains, length, filter, slice_index_or}
use Rattle.fair_rounds.specs.declared.graphs.Edge.{Edge}
use Rattle.fair_rounds.specs.declared.entries.EnteringWay.{EnteringWay}
use Rattle.fair_rounds.specs.declared.entries.EntriesAnswer.{EntriesAnswer}
use Rattle.fair_rounds.specs.declared.entries.EntriesAnswer.TheVariants as answer
use Rattle.fair_rounds.specs.Rounds.{IsIn, IsWalk}
use Rattle.fair_rounds.specs.Classes.{is_inside}

-- whether the edge comes into these places: it leads from none of them to one of them
abbrev pub is_entry : List Bool → Edge → Bool
is_entry inside e = not (slice_index_or inside e.from false) && slice_index_or inside e.to false

-- how many edges do
abbrev pub entries : List Bool → List Edge → ℕ
entries inside es = length (filter (is_entry inside) es)

-- A way within the set leads from one of the places, and comes into the others more than so many times.
pub record Enters (edges : List Edge) (set begins inside : List Bool) (most : ℕ) (w : EnteringWay) : Type 0 where
  pub begins_at : IsIn begins w.begin
  pub walk : IsWalk edges set w.begin w.edges.items w.place
  pub more : most < entries inside w.edges.items

-- no way within the set does that leads from one of the places
abbrev pub EntersAtMost : List Edge → List Bool → List Bool → List Bool → ℕ → Type 0
EntersAtMost edges set begins inside most =
    (k : ℕ) (way : List Edge) (to : ℕ) → IsIn begins k → IsWalk edges set k way to → entries inside way ≤ most

-- what an answer says: it shows one that does, or none does, or it says nothing
abbrev pub IsEntriesAnswer : List Edge → List Bool → List Bool → List Bool → ℕ → EntriesAnswer → Type 0
IsEntriesAnswer edges set begins inside most (answer.Found w) = Enters edges set begins inside most w
IsEntriesAnswer edges set begins inside most answer.Absent = EntersAtMost edges set begins inside most
IsEntriesAnswer edges set begins inside most answer.Undecided = Unit {0}

-- Cited by private contracts alone.

-- a way leads from one of the places that comes into the others so many times
abbrev pub CanEnter : List Edge → List Bool → List Bool → List Bool → ℕ → Type 0
CanEnter edges set begins inside many =
    (k : ℕ) × (way : List Edge) × (to : ℕ) × IsIn begins k × IsWalk edges set k way to × (many ≤ entries inside way)

-- whether the edge within the set leads from a marked place and comes into the others, where it is not marked
abbrev pub enters_out : List Bool → List Bool → List Bool → List Bool → Edge → Bool
enters_out set inside marks next e =
    is_inside set e && (slice_index_or marks e.from false && is_entry inside e) && not (slice_index_or next e.to false)

-- each edge within the set that leads from a marked place and comes into the others leads to one of the next places
abbrev pub HasEntered : List Edge → List Bool → List Bool → List Bool → List Bool → Type 0
HasEntered edges set inside marks next =
    (e : Edge) → Contains edges e → IsTrue (is_inside set e) → IsIn marks e.from → IsTrue (is_entry inside e) → IsIn next e.to
