-- What is known of places of a program: the numbers that registers hold there, and the words that may be asked for from
-- there on. Of places that are not closed nothing is known.
use Rattle.std.specs.Prelude.{◌≡◌, ◌⊎◌, ℕ, Bool, false, List, [], length, Option, Some, None, slice_index_or}
use Rattle.stream_core.specs.Registers.{register_at}
use Rattle.touched_words.specs.declared.few.Few.{Few}

-- a number is one of these
abbrev pub IsOneOf : Few → ℕ → Type 0
IsOneOf few n = (n ≡ few.first) ⊎ ((n ≡ few.second) ⊎ ((n ≡ few.third) ⊎ (n ≡ few.fourth)))

-- some of these numbers are known, and no others
abbrev pub IsKnownWithin : Option Few → Few → Type 0
IsKnownWithin None all = ⊥
IsKnownWithin (Some few) all = (n : ℕ) → IsOneOf few n → IsOneOf all n

-- Rows by place: whether the place is closed, what each register may hold there if that is known, and of each of the words
-- whether it may be asked for from there on, whether it may be changed, and whether it may be asked for otherwise than by
-- adds that load what nobody reads. Words are given by their numbers in the memory. Of each place it is said whether
-- nobody reads what the instruction there loads.
pub record TouchValue : Type 0 where
  pub words : List ℕ
  pub closed : List Bool
  pub known : List (List (Option Few))
  pub touches : List (List Bool)
  pub changes : List (List Bool)
  pub uses : List (List Bool)
  pub unread : List Bool

-- whether a place is closed; past the end none is
abbrev pub is_closed : List Bool → ℕ → Bool
is_closed closed k = slice_index_or closed k false

-- what a register may hold by a row, where that is known
abbrev pub known_by : List (Option Few) → ℕ → Option Few
known_by row r = slice_index_or row r None

-- the row of a place
abbrev pub known_at : List (List (Option Few)) → ℕ → List (Option Few)
known_at known k = slice_index_or known k []

-- whether a word is marked in a row
abbrev pub is_marked : List Bool → ℕ → Bool
is_marked row n = slice_index_or row n false

-- the row of a place
abbrev pub marks_at : List (List Bool) → ℕ → List Bool
marks_at rows k = slice_index_or rows k []

-- whether nobody reads what the instruction at a place loads; past the end that is not said
abbrev pub is_unread_at : TouchValue → ℕ → Bool
is_unread_at v k = slice_index_or v.unread k false

-- These are all registers of a stream, and each holds one of the numbers that are known by the row.
pub record HoldsKnown (row : List (Option Few)) (rs : List ℕ) : Type 0 where
  pub size : length rs ≡ 32
  pub each : (r : ℕ) (few : Few) → known_by row r ≡ Some few → IsOneOf few (register_at rs r)
