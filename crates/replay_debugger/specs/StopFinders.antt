-- What a run to a stop looks at after each step: the breakpoints as a set, and the watched words as they were last
-- seen.
use Rattle.std.specs.Prelude.{◌≡◌, ℕ, ◌-◌, ◌<◌, ◌≤◌, ◌==◌, ◌&&◌, Bool, true, false}
use Rattle.std.specs.Prelude.{List, [], ◌∷◌, ◌++◌, Option, Some, None}
use Rattle.std.specs.List.{list_any}
use Rattle.tag_memory.specs.Storage.{TaggedMemory, cell_at}
use Rattle.replay_debugger.specs.declared.points.Point.{Point}
use Rattle.replay_debugger.specs.declared.points.Point.TheVariants.{Break, Watch, WatchTags}
use Rattle.replay_debugger.specs.declared.stop_finder.StopFinder.{StopFinder}
use Rattle.replay_debugger.specs.Watches.{WatchValue, watched_part, watch_at}
use Rattle.replay_debugger.specs.Stops.{word_differs}
use Rattle.replay_debugger.specs.Stops.{IsLeastAbove, NoneAbove, IsGreatestBelow, NoneBelow}

-- Breakpoints.

abbrev pub breaks_at : ℕ → ℕ → Point → Bool
breaks_at p pc (Break q at) = (p == q) && (pc == at)
breaks_at p pc (Watch a) = false
breaks_at p pc (WatchTags a) = false

abbrev pub slot_breaks_at : ℕ → ℕ → Option Point → Bool
slot_breaks_at p pc None = false
slot_breaks_at p pc (Some point) = breaks_at p pc point

-- whether a list of places has this one
abbrev pub has_place : List (ℕ × ℕ) → ℕ → ℕ → Bool
has_place places p pc = list_any (λ place. (p == place.0) && (pc == place.1)) places

-- the places of the breakpoints, and no others
abbrev pub AreBreakpoints : List (Option Point) → List (ℕ × ℕ) → Type 0
AreBreakpoints points places = (p pc : ℕ) → has_place places p pc ≡ list_any (slot_breaks_at p pc) points

-- Watched words.

abbrev pub watch_of : TaggedMemory → Point → List WatchValue
watch_of m (Break p pc) = []
watch_of m (Watch a) = watch_at a false (cell_at m a) ∷ []
watch_of m (WatchTags a) = watch_at a true (cell_at m a) ∷ []

abbrev pub slot_watch_of : TaggedMemory → Option Point → List WatchValue
slot_watch_of m None = []
slot_watch_of m (Some point) = watch_of m point

-- the watched words of points, as a memory shows them
abbrev pub watches_of : TaggedMemory → List (Option Point) → List WatchValue
watches_of m [] = []
watches_of m (slot ∷ slots) = slot_watch_of m slot ++ watches_of m slots

-- a watched word as a memory shows it
abbrev pub seen_again : TaggedMemory → WatchValue → WatchValue
seen_again m w = watch_at w.address w.tags_alone (cell_at m w.address)

-- whether what is watched of a word is not as it was last seen
abbrev pub has_changed : TaggedMemory → WatchValue → Bool
has_changed m w = word_differs w.seen (watched_part w.tags_alone (cell_at m w.address))

-- Both.

-- the breakpoints are those of the points, and the watched words were last seen in this memory
pub record IsFinderOf (points : List (Option Point)) (m : TaggedMemory) (s : StopFinder) : Type 0 where
  pub breakpoints : AreBreakpoints points s.breakpoints
  pub words : s.words.items ≡ watches_of m points

-- A run ends at k, the least number above low that passes, or at high where none does.
pub record IsRunToStop (test : ℕ → Bool) (low high k : ℕ) (found : Bool) : Type 0 where
  pub stop : found ≡ true → IsLeastAbove test low high k
  pub end : found ≡ false → (k ≡ high) × NoneAbove test low high

-- k is the greatest number that passes among those up to high that a run from low tells of: it sees what changed from
-- k - 1 to k, and at 0 nothing has
pub record IsGreatestInRun (test : ℕ → Bool) (low high k : ℕ) : Type 0 where
  pub seen : low ≤ k - 1
  pub within : k ≤ high
  pub passes : test k ≡ true
  pub greatest : (j : ℕ) → k < j → j ≤ high → test j ≡ false

-- none of them passes
abbrev pub NoneInRun : (ℕ → Bool) → ℕ → ℕ → Type 0
NoneInRun test low high = (j : ℕ) → low ≤ j - 1 → j ≤ high → test j ≡ false

abbrev pub IsLastInRun : (ℕ → Bool) → ℕ → ℕ → Option ℕ → Type 0
IsLastInRun test low high None = NoneInRun test low high
IsLastInRun test low high (Some k) = IsGreatestInRun test low high k

-- the greatest number below high that passes, if there is one
abbrev pub IsLastBelow : (ℕ → Bool) → ℕ → Option ℕ → Type 0
IsLastBelow test high None = NoneBelow test high
IsLastBelow test high (Some k) = IsGreatestBelow test high k
