-- What is kept of the streams that are in use: for each whether it is otherwise than at the start.
use Rattle.std.specs.Prelude.{◌≡◌, ℕ, ◌<◌, ◌+◌, ◌*◌, ◌==◌, Bool, false, not, ◌&&◌, if◌then◌else◌, List, length, Option}
use Rattle.std.specs.Prelude.{Some, None, slice_get, slice_index_or}
use Rattle.run_findings.specs.Places.{passes}
use Rattle.run_findings.specs.declared.actions.Action.{Action}
use Rattle.value_origins.specs.Streams.{is_used, is_started, creates, is_lowest_idle}
use Rattle.value_origins.specs.declared.streams.Starts.{Starts}

abbrev pub moved_at : List Bool → ℕ → ℕ → Bool
moved_at moved p s = slice_index_or moved (p * 256 + s) false

-- whether a stream is in use, by these
abbrev pub used_in : List Bool → ℕ → ℕ → Bool
used_in moved p s = if s == 0 then not (moved_at moved p s) else moved_at moved p s

-- whether a stream is this one
abbrev pub is_that : Option ℕ → ℕ → Bool
is_that None s = false
is_that (Some k) s = k == s

-- these of the streams in use before step n
pub record AreUsed (ds : List Action) (n : ℕ) (moved : List Bool) : Type 0 where
  pub count : length moved ≡ 65536
  pub is : (p s : ℕ) → p < 256 → s < 256 → used_in moved p s ≡ is_used ds n p s

-- the lowest idle stream
abbrev pub IsLowest : (ℕ → Bool) → Option ℕ → Type 0
IsLowest used o = (s : ℕ) → s < 256 → is_that o s ≡ is_lowest_idle used s

-- the stream that a step starts
abbrev pub IsStartBy : List Bool → Action → Option ℕ → Type 0
IsStartBy moved d o = (s : ℕ) → s < 256 → is_that o s ≡ (creates d.deed && is_lowest_idle (used_in moved d.stream.p) s)

-- of each of the first n steps the stream that it started, if it did
pub record AreStartsTo (ds : List Action) (n : ℕ) (starts : List (Option ℕ)) : Type 0 where
  pub count : length starts ≡ n
  pub is : (k s : ℕ) (other : Option ℕ) → k < n → s < 256
      → is_that (slice_index_or starts k other) s ≡ passes (is_started ds k s) (slice_get ds k)

abbrev pub AreStarts : List Action → Starts → Type 0
AreStarts ds starts = AreStartsTo ds (length ds) starts.streams.items
