-- What a listed end shows, and what a set of worlds that spins misses.
use Rattle.std.specs.Prelude.{◌≡◌, ℕ, ◌<◌, ◌≤◌, ◌↔◌, Bool, true, IsTrue, IsFalse, if◌then◌else◌, List, [], ◌∷◌, ◌++◌, Contains, length, map, slice_index}
use Rattle.std.specs.Prelude.{Option, Some, None, min}
use Rattle.std.specs.List.{All}
use Rattle.end_kinds.specs.declared.kinds.EndKind.{EndKind}
use Rattle.end_kinds.specs.declared.kinds.EndKind.TheVariants as end
use Rattle.seed_verdicts.specs.ScheduleSpace.Spaces.{SpaceValue, schedule_of, world_of, machine_after}
use Rattle.expectations.specs.declared.expectation.Expectation.{Expectation}
use Rattle.seed_verdicts.specs.ScheduleVerdicts.RightEnds.{AreTrapsExpected, may_loop}
use Rattle.changed_words.specs.Changed.{changed_words}
use Rattle.changed_words.specs.declared.changed.ChangedWord.{ChangedWord}
use Rattle.end_states.specs.EndStates.{trap_stops, waiting_streams}
use Rattle.end_states.specs.declared.states.TrapStop.{TrapStop}
use Rattle.end_states.specs.declared.states.WaitingStream.{WaitingStream}
use Rattle.space_ends.specs.EndsOfSpace.{are_ends, missed_in}
use Rattle.space_ends.specs.Spinning.{are_spinning}
use Rattle.space_ends.specs.declared.end_values.SpaceEnd.{SpaceEnd}
use Rattle.space_ends.specs.declared.end_values.SpaceEndKind.{SpaceEndKind}
use Rattle.space_ends.specs.declared.end_values.SpaceEndKind.TheVariants as kind

-- What is known of a listed end: what it misses, and where its worlds are; which streams a trap stopped there, which wait,
-- and which words changed.
pub record ShownEnd : Type 0 where
  pub kind : SpaceEndKind
  pub missed : Option ℕ
  pub is_trapped : Bool
  pub stopped : List TrapStop
  pub waiting : List WaitingStream
  pub changed : List ChangedWord
  pub places : List ℕ

abbrev pub shown_of : SpaceEnd → ShownEnd
shown_of e = record {
  kind = e.kind;
  missed = e.missed;
  is_trapped = e.is_trapped;
  stopped = e.state.stopped.items;
  waiting = e.state.waiting.items;
  changed = e.state.changed.items;
  places = e.places.items;
}

-- What a listed end shows is what the world at a place shows.
pub record IsShownAt (v : SpaceValue) (e : ShownEnd) (k : ℕ) : Type 0 where
  -- the streams that a trap stopped
  pub stopped : e.stopped ≡ trap_stops (world_of v k)
  -- the streams that wait, and the words that they wait for
  pub waiting : e.waiting ≡ waiting_streams (machine_after v.image (schedule_of v k))
  -- the words that changed
  pub changed : e.changed ≡ changed_words v.image (world_of v k).memory

-- the first place, where the second one is there, is there too and not after it
abbrev pub IsNotAfter : Option ℕ → Option ℕ → Type 0
IsNotAfter first other = (j : ℕ) → other ≡ Some j → (i : ℕ) × (first ≡ Some i) × (i ≤ j)

-- One of these worlds of a space misses the expectation at a place, and none before it.
pub record IsMissedBySome (v : SpaceValue) (expected : List Expectation) (places : List ℕ) (i : ℕ) : Type 0 where
  pub place : ℕ
  pub among : Contains places place
  pub missed : missed_in (world_of v place) expected ≡ Some i

-- It is the place of the first expectation that some of these worlds of a space misses; None if none misses any.
pub record IsFirstMissedBy (v : SpaceValue) (expected : List Expectation) (places : List ℕ) (first : Option ℕ)
    : Type 0 where
  -- no world of them misses an earlier one
  pub least : All (λ k. IsNotAfter first (missed_in (world_of v k) expected)) places
  -- some world of them misses it
  pub shown : (i : ℕ) → first ≡ Some i → IsMissedBySome v expected places i

-- the kind of sets that no step leads out of, and in which it goes on for ever: the program may do so, or not
abbrev pub spinning_kind : List Expectation → EndKind
spinning_kind expected = if may_loop expected then end.Looping else end.Spinning

-- What a set that spins says is so.
pub record IsSpinningSet (v : SpaceValue) (expected : List Expectation) (e : ShownEnd) : Type 0 where
  -- its kind
  pub kind : e.kind ≡ kind.End (spinning_kind expected)
  -- it has a world
  pub some : 0 < length e.places
  -- the streams that a trap stopped in its first world
  pub stopped : e.stopped ≡ trap_stops (world_of v (slice_index e.places 0))
  -- no trap is reported exactly if each of these traps is expected
  pub traps : IsFalse e.is_trapped ↔ AreTrapsExpected expected (world_of v (slice_index e.places 0))
  -- the first expectation that any of its worlds misses; none is missed where the program may go on so
  pub missed : IsFalse (may_loop expected) → IsFirstMissedBy v expected e.places e.missed
  pub allowed : IsTrue (may_loop expected) → e.missed ≡ None

-- What a listed end says is so: of a set that spins, and of an end at each of its places.
pub record IsShownSo (v : SpaceValue) (expected : List Expectation) (e : ShownEnd) : Type 0 where
  pub set : are_spinning e.kind ≡ true → IsSpinningSet v expected e
  pub end : are_ends e.kind ≡ true → All (IsShownAt v e) e.places

-- so it is of each listed end
abbrev pub AreShownSo : SpaceValue → List Expectation → List SpaceEnd → Type 0
AreShownSo v expected ends = All (IsShownSo v expected) (map shown_of ends)

-- For the code.

-- A listed end is of this kind, and this is what it misses.
pub record IsOfLine (e : SpaceEnd) (what : SpaceEndKind) (first : Option ℕ) : Type 0 where
  pub kind : e.kind ≡ what
  pub missed : e.missed ≡ first

-- the lesser of two places, which may be missing
abbrev pub earlier : Option ℕ → Option ℕ → Option ℕ
earlier None other = other
earlier (Some i) None = Some i
earlier (Some i) (Some j) = Some (min i j)

-- a listed end with one place more
abbrev pub shown_with : ShownEnd → ℕ → ShownEnd
shown_with e k = record e { places = e.places ++ k ∷ [] }
