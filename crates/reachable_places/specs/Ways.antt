-- The places to which ways lead from where streams begin, by the program alone.
use Rattle.std.specs.Prelude.{◌≡◌, ◌⊎◌, ◌<◌, ℕ, Bool, true, List, [], ◌∷◌, Some, IsTrue, length, slice_get, slice_index_or}
use Rattle.image_file.specs.ImageValue.{ImageValue}
use Rattle.stream_core.specs.StreamRow.{fetch_word}
use Rattle.reachable_places.specs.Successors.{successors_at, IsSuccessor}

-- streams begin at place k: it is an entry or the trap entry
abbrev pub IsBeginning : ImageValue → ℕ → Type 0
IsBeginning image k = ((p : ℕ) × (slice_get image.entries p ≡ Some k)) ⊎ (k ≡ image.trap_entry)

-- what stands at place k leads to place j
abbrev pub LeadsTo : ImageValue → ℕ → ℕ → Type 0
LeadsTo image k j = IsSuccessor (successors_at (fetch_word image.profile (slice_get image.program k)) k) j

-- These places, the last one first, are a way to place j from where streams begin.
abbrev pub IsWay : ImageValue → List ℕ → ℕ → Type 0
IsWay image [] j = IsBeginning image j
IsWay image (k ∷ ks) j = IsWay image ks k × LeadsTo image k j

-- a way leads to place j
unfoldable pub IsReachable : ImageValue → ℕ → Type 0
IsReachable image j = (ks : List ℕ) × IsWay image ks j

-- whether a list says that place k is reachable; a place that it does not have, past the program's end, is
abbrev pub is_reached : List Bool → ℕ → Bool
is_reached places k = slice_index_or places k true

-- The list has an entry for each word, and says just of those that they are reachable to which a way leads.
pub record AreReachable (image : ImageValue) (places : List Bool) : Type 0 where
  pub each : length places ≡ length image.program
  pub found : (k : ℕ) → k < length image.program → IsTrue (is_reached places k) → IsReachable image k
  pub all : (k : ℕ) → IsReachable image k → IsTrue (is_reached places k)
