-- Rounds within a set of places, and which of them are fair.
use Rattle.std.specs.Prelude.{◌≡◌, ℕ, ◌<◌, Bool, false, IsTrue, List, [], ◌∷◌, length, slice_index_or, Contains}
use Rattle.processor.specs.declared.steps.Step.{Step}
use Rattle.fair_rounds.specs.declared.graphs.Edge.{Edge}
use Rattle.fair_rounds.specs.declared.graphs.Standing.{Standing}
use Rattle.fair_rounds.specs.declared.graphs.Answer.{Answer}
use Rattle.fair_rounds.specs.declared.graphs.Answer.TheVariants.{Found, Absent, Undecided}

-- the place is in the set
abbrev pub IsIn : List Bool → ℕ → Type 0
IsIn set k = IsTrue (slice_index_or set k false)

-- The edge leads from the place, in the set, to one in the set.
pub record IsEdge (edges : List Edge) (set : List Bool) (from : ℕ) (e : Edge) : Type 0 where
  pub there : Contains edges e
  pub from_is : e.from ≡ from
  pub from_in : IsIn set from
  pub to_in : IsIn set e.to

-- these edges lead one after the other from a place to another one, within the set
abbrev pub IsWalk : List Edge → List Bool → ℕ → List Edge → ℕ → Type 0
IsWalk edges set from [] to = from ≡ to
IsWalk edges set from (e ∷ es) to = IsEdge edges set from e × IsWalk edges set e.to es to

-- They lead from the place back to it, and there is one.
pub record IsRound (edges : List Edge) (set : List Bool) (place : ℕ) (round : List Edge) : Type 0 where
  pub walk : IsWalk edges set place round place
  pub some : 0 < length round

-- the round goes through the place: an edge of it leads from there
abbrev pub Passes : List Edge → ℕ → Type 0
Passes round k = (e : Edge) × Contains round e × (e.from ≡ k)

-- the stream has an edge in the round
abbrev pub Steps : List Edge → Step → Type 0
Steps round who = (e : Edge) × Contains round e × (e.step ≡ who)

-- it has one that completes
abbrev pub Completes : List Edge → Step → Type 0
Completes round who = (e : Edge) × Contains round e × (e.step ≡ who) × IsTrue e.completes

-- the stream runs at the place
abbrev pub Runs : List Standing → ℕ → Step → Type 0
Runs standings k who = (s : Standing) × Contains standings s × (s.place ≡ k) × (s.step ≡ who)

-- its next step there would complete
abbrev pub CanComplete : List Standing → ℕ → Step → Type 0
CanComplete standings k who =
    (s : Standing) × Contains standings s × (s.place ≡ k) × (s.step ≡ who) × IsTrue s.can_complete

-- each stream that runs throughout the round has an edge in it
abbrev pub IsFairBySteps : List Standing → List Edge → Type 0
IsFairBySteps standings round =
    (who : Step) → ((k : ℕ) → Passes round k → Runs standings k who) → Steps round who

-- So it is, and each stream that could complete at some place of the round completes in it.
pub record IsFairByWords (standings : List Standing) (round : List Edge) : Type 0 where
  pub steps : IsFairBySteps standings round
  pub words : (k : ℕ) (who : Step) → Passes round k → CanComplete standings k who → Completes round who

-- each step of the stream in the round is blocked
abbrev pub IsBlockedIn : List Edge → Step → Type 0
IsBlockedIn round who = (e : Edge) → Contains round e → e.step ≡ who → e.completes ≡ false

-- what an answer says of rounds of which something holds: it shows one, or there is none, or it says nothing
abbrev pub IsAnswer : List Edge → List Bool → (List Edge → Type 0) → Answer → Type 0
IsAnswer edges set P (Found r) = IsRound edges set r.place r.edges.items × P r.edges.items
IsAnswer edges set P Absent = (k : ℕ) (round : List Edge) → IsRound edges set k round → ¬ (P round)
IsAnswer edges set P Undecided = Unit {0}

-- of rounds that are fair by words and in which each step of the stream is blocked
abbrev pub IsStarvingAnswer : List Edge → List Standing → List Bool → Step → Answer → Type 0
IsStarvingAnswer edges standings set who a =
    IsAnswer edges set (λ round. IsFairByWords standings round × IsBlockedIn round who) a
