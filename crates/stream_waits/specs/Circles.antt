-- A circle of streams that wait for one another.
use Rattle.std.specs.Prelude.{◌≡◌, ◌≢◌, ◌<◌, ◌≤◌, ◌+◌, ◌-◌, ◌⊎◌, ℕ, zero, suc, ◌==◌, ◌&&◌, Bool, List, [], ◌∷◌, length}
use Rattle.std.specs.Prelude.{Option, Some, None, slice_get, if◌then◌else◌}
use Rattle.std.specs.List.{AllPairs}
use Rattle.processor.specs.declared.steps.Step.{Step}
use Rattle.stream_waits.specs.declared.turns.LastTurn.{LastTurn}
use Rattle.stream_waits.specs.declared.waits.StreamWait.{StreamWait}

-- whether two steps are of one stream
abbrev pub is_same_stream : Step → Step → Bool
is_same_stream a b = (a.p == b.p) && (a.s == b.s)

-- whose step turned a word last, if one did
abbrev pub turner : Option LastTurn → Option Step
turner None = None
turner (Some turn) = Some turn.step

-- whom a stream waits for: the stream that last turned the word that it waits for. None where it does not wait, or
-- nobody turned the word.
abbrev pub next_of : List StreamWait → Step → Option Step
next_of [] stream = None
next_of (w ∷ ws) stream = if is_same_stream w.stream stream then turner w.turn else next_of ws stream

-- A circle: two or more streams, no two of which are the same, each of which waits for the next one, and the last one
-- for the first.
pub record IsCircle (ws : List StreamWait) (c : List Step) : Type 0 where
  pub several : 2 ≤ length c
  pub different : AllPairs (λ (x y : Step). x ≢ y) c
  pub next : (k : ℕ) (a b : Step) → slice_get c k ≡ Some a → slice_get c (k + 1) ≡ Some b → next_of ws a ≡ Some b
  pub closed : (a b : Step) → slice_get c (length c - 1) ≡ Some a → slice_get c 0 ≡ Some b → next_of ws a ≡ Some b

-- Cited by private contracts alone.

abbrev pub next_after : List StreamWait → Option Step → Option Step
next_after ws None = None
next_after ws (Some stream) = next_of ws stream

-- the stream that so many waits lead to
abbrev pub walk : List StreamWait → Step → ℕ → Option Step
walk ws first zero = Some first
walk ws first (suc k) = next_after ws (walk ws first k)

-- the streams on the way from one to itself, without those before it is back
pub record IsBack (ws : List StreamWait) (first : Step) (way : List Step) : Type 0 where
  pub some : 0 < length way
  pub streams : (k : ℕ) → k < length way → slice_get way k ≡ walk ws first k
  pub back : walk ws first (length way) ≡ Some first
  pub before : (k : ℕ) → 0 < k → k < length way → walk ws first k ≢ Some first

-- no way of at most so many waits leads back
pub record IsNoWay (ws : List StreamWait) (first : Step) (way : List Step) : Type 0 where
  pub none : way ≡ []
  pub never : (k : ℕ) → 0 < k → k ≤ length ws → walk ws first k ≢ Some first

abbrev pub IsWayBack : List StreamWait → Step → List Step → Type 0
IsWayBack ws first way = IsBack ws first way ⊎ IsNoWay ws first way
