-- Whether some edges are a fair round.
use Rattle.std.specs.Prelude.{◌≡◌, ◌==◌, ◌&&◌, ◌||◌, not, ℕ, Bool, true, List, [], ◌∷◌, Contains}
use Rattle.std.specs.List.{list_any}
use Rattle.processor.specs.declared.steps.Step.{Step}
use Rattle.fair_rounds.specs.declared.graphs.Edge.{Edge}
use Rattle.fair_rounds.specs.declared.graphs.Standing.{Standing}
use Rattle.fair_rounds.specs.declared.graphs.Round.{Round}
use Rattle.fair_rounds.specs.Rounds.{IsIn, IsRound, IsFairByWords}
use Rattle.fair_rounds.specs.Classes.{is_step, is_inside, is_of, is_done_of}

-- whether edges lead one after the other from a place to another one within the set
abbrev pub walks : List Bool → ℕ → List Edge → ℕ → Bool
walks set from [] to = from == to
walks set from (e ∷ es) to = (e.from == from) && is_inside set e && walks set e.to es to

-- the place that an edge leads from
abbrev pub from_of : Edge → ℕ
from_of e = e.from

-- whether it is the stream, and the place
abbrev pub runs_here : ℕ → Step → Standing → Bool
runs_here k who s = (s.place == k) && is_step who s.step

-- whether the stream does not run where the edge leads from
abbrev pub is_gap : List Standing → Step → Edge → Bool
is_gap standings who e = not (list_any (runs_here e.from who) standings)

-- whether the stream completes in the round if it could, and has an edge there or does not run throughout
abbrev pub is_met : List Edge → List Standing → Standing → Bool
is_met round standings s =
    (not s.can_complete || list_any (is_done_of s.step) round)
    && (list_any (is_of s.step) round || list_any (is_gap standings s.step) round)

-- each stream that stands at a marked place does
abbrev pub MeetsAll : List Edge → List Standing → List Bool → Type 0
MeetsAll round standings marks =
    (s : Standing) → Contains standings s → IsIn marks s.place → is_met round standings s ≡ true

-- it is a fair round
abbrev pub IsShownRound : List Edge → List Standing → List Bool → Round → Type 0
IsShownRound edges standings set r =
    IsRound edges set r.place r.edges.items × IsFairByWords standings r.edges.items
