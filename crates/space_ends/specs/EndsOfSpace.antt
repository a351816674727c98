-- The listed ends of a space at which runs end.
use Rattle.std.specs.Prelude.{◌≡◌, ℕ, ◌<◌, ◌≤◌, ◌==◌, ◌↔◌, ◌++◌, [], ◌∷◌, Bool, true, false, not, IsFalse}
use Rattle.std.specs.Prelude.{List, length, map, slice_index, Option, None}
use Rattle.std.specs.List.{All, AllPairs, filter, sum_by, count_by, position}
use Rattle.processor.specs.World.{World}
use Rattle.processor.specs.declared.steps.Step.{Step}
use Rattle.end_kinds.specs.declared.kinds.EndKind.{EndKind}
use Rattle.end_kinds.specs.declared.kinds.EndKind.TheVariants as end
use Rattle.end_states.specs.EndStates.{AreSameStates}
use Rattle.end_states.specs.Judgements.{IsJudgedKind}
use Rattle.end_states.specs.declared.judgements.EndJudgement.{EndJudgement}
use Rattle.end_states.specs.declared.states.EndState.{EndState}
use Rattle.expectations.specs.Meeting.{is_met}
use Rattle.expectations.specs.declared.expectation.Expectation.{Expectation}
use Rattle.seed_verdicts.specs.ScheduleVerdicts.RightEnds.{AreTrapsExpected}
use Rattle.seed_verdicts.specs.ScheduleSpace.Spaces.{SpaceValue, count, world_of, schedule_of}
use Rattle.seed_verdicts.specs.ScheduleSpace.Reaching.{IsEnd}
use Rattle.space_ends.specs.declared.end_values.SpaceEnd.{SpaceEnd}
use Rattle.space_ends.specs.declared.end_values.SpaceEndKind.{SpaceEndKind}
use Rattle.space_ends.specs.declared.end_values.SpaceEndKind.TheVariants as kind

-- What is known of a listed end: what its worlds are, what they miss, where they are, and the schedule that is shown.
pub record ListedEnd : Type 0 where
  pub kind : SpaceEndKind
  pub missed : Option ℕ
  pub is_trapped : Bool
  pub places : List ℕ
  pub schedule : List Step

abbrev pub listed_of : SpaceEnd → ListedEnd
listed_of e = record {
  kind = e.kind;
  missed = e.missed;
  is_trapped = e.is_trapped;
  places = e.places.items;
  schedule = e.schedule.items;
}

-- whether runs end at worlds of this kind
abbrev pub are_ends : SpaceEndKind → Bool
are_ends (kind.End end.Finished) = true
are_ends (kind.End end.Stopped) = true
are_ends (kind.End end.Deadlock) = true
are_ends (kind.End end.Waiting) = true
are_ends (kind.End end.Spinning) = false
are_ends (kind.End end.Looping) = false
are_ends (kind.End end.OutOfSteps) = true
are_ends (kind.Broken claim) = false
are_ends kind.Busy = false

-- those of some listed ends at which runs end
abbrev pub ends_in : List SpaceEnd → List ListedEnd
ends_in ends = filter (λ e. are_ends e.kind) (map listed_of ends)

-- the place of the first expectation that a world misses
abbrev pub missed_in : World → List Expectation → Option ℕ
missed_in w expected = position (λ x. not (is_met w x)) expected

-- A world at which a run ends is judged so.
pub record IsJudgedAt (v : SpaceValue) (expected : List Expectation) (k : ℕ) (end_kind : EndKind) (first : Option ℕ)
    (is_trapped : Bool) : Type 0 where
  -- a run ends there
  pub ends : IsEnd v.image (world_of v k)
  -- it is an end of this kind, beside what is expected
  pub kind : IsJudgedKind v.image expected (world_of v k) end_kind
  -- this is the first expectation that it misses
  pub missed : first ≡ missed_in (world_of v k) expected
  -- no trap is reported exactly where each trap that stopped a stream is expected
  pub traps : IsFalse is_trapped ↔ AreTrapsExpected expected (world_of v k)

-- A listed end is one of worlds at places before n.
pub record IsListedEnd (v : SpaceValue) (expected : List Expectation) (n : ℕ) (e : ListedEnd) : Type 0 where
  -- it is of a kind of ends
  pub end_kind : EndKind
  pub of_kind : e.kind ≡ kind.End end_kind
  -- it has a place
  pub some : 0 < length e.places
  -- each of its places is below all later ones
  pub ascending : AllPairs (λ j k. j < k) e.places
  -- all its places are places of the space
  pub within : All (λ k. k < n) e.places
  -- at each of them a run ends, and what the listed end says of it is so
  pub each : All (λ k. IsJudgedAt v expected k end_kind e.missed e.is_trapped) e.places
  -- the schedule is the one of its first place
  pub schedule : e.schedule ≡ schedule_of v (slice_index e.places 0)

-- how many times some listed ends have a place
abbrev pub times_listed : ℕ → List ListedEnd → ℕ
times_listed k ends = sum_by (λ e. count_by (λ j. j == k) e.places) ends

-- They are the ends of the worlds at places before n.
pub record AreEndsBefore (v : SpaceValue) (expected : List Expectation) (n : ℕ) (ends : List ListedEnd) : Type 0 where
  -- each is one
  pub each : All (IsListedEnd v expected n) ends
  -- each place at which a run ends is listed once
  pub once : (k : ℕ) → k < n → IsEnd v.image (world_of v k) → times_listed k ends ≡ 1

-- no place of an end has a shorter schedule than the one that is shown
abbrev pub IsShortestShown : SpaceValue → ListedEnd → Type 0
IsShortestShown v e = All (λ k. length e.schedule ≤ length (schedule_of v k)) e.places

-- They are the ends of the space, each with a shortest schedule.
pub record AreEndsOf (v : SpaceValue) (expected : List Expectation) (ends : List ListedEnd) : Type 0 where
  -- each is an end of worlds of the space
  pub each : All (IsListedEnd v expected (count v)) ends
  -- each place of the space at which a run ends is listed once
  pub once : (k : ℕ) → k < count v → IsEnd v.image (world_of v k) → times_listed k ends ≡ 1
  -- each shows a schedule that is the shortest one of all its places
  pub shortest : All (IsShortestShown v) ends

-- For the code.

-- a listed end with one place more
abbrev pub with_place : ListedEnd → ℕ → ListedEnd
with_place e k = record e { places = e.places ++ k ∷ [] }

-- an end of one place alone, of this kind
abbrev pub listed_at : SpaceEndKind → ℕ → List Step → ListedEnd
listed_at what k schedule = record {
  kind = what;
  missed = None;
  is_trapped = false;
  places = k ∷ [];
  schedule = schedule;
}

-- the listed end of the first place of its line, which is judged so
abbrev pub first_listed : EndJudgement → ℕ → List Step → ListedEnd
first_listed j k schedule =
    record (listed_at (kind.End j.kind) k schedule) { missed = j.missed; is_trapped = j.is_trapped }

-- a listed end is judged so
pub record IsJudgedSo (e : ListedEnd) (j : EndJudgement) : Type 0 where
  pub kind : e.kind ≡ kind.End j.kind
  pub missed : e.missed ≡ j.missed
  pub traps : e.is_trapped ≡ j.is_trapped

-- A listed end is of the line of one that is judged so and shows this.
pub record IsOfEndLine (e : SpaceEnd) (j : EndJudgement) (s : EndState) : Type 0 where
  pub judged : IsJudgedSo (listed_of e) j
  pub state : AreSameStates e.state s
