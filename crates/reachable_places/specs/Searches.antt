-- The search for the places to which ways lead: those that were found, and those of them that are left to be followed.
use Rattle.std.specs.Prelude.{◌≡◌, ◌⊎◌, ℕ, ◌+◌, Bool, true, false, List, [], ◌∷◌, ◌++◌, IsTrue, if◌then◌else◌}
use Rattle.std.specs.Prelude.{length, replicate, slice_set, slice_index_or, Contains}
use Rattle.image_file.specs.ImageValue.{ImageValue}
use Rattle.reachable_places.specs.declared.successors.Successors.{Successors}
use Rattle.reachable_places.specs.declared.successors.Successors.TheVariants as to
use Rattle.reachable_places.specs.Ways.{is_reached, IsBeginning, LeadsTo, IsReachable}

-- the list with place p
abbrev pub with_place : List Bool → ℕ → List Bool
with_place places p = slice_set places p true

-- what is left then: place p too, where it was not found before
abbrev pub left_with : List Bool → List ℕ → ℕ → List ℕ
left_with places left p = if is_reached places p then left else left ++ p ∷ []

-- the list with these successors
abbrev pub with_successors : List Bool → Successors → List Bool
with_successors places to.None = places
with_successors places (to.One a) = with_place places a
with_successors places (to.Two a b) = with_place (with_place places a) b
with_successors places to.Any = replicate (length places) true

-- what is left then; nothing where all places are found
abbrev pub left_with_successors : List Bool → List ℕ → Successors → List ℕ
left_with_successors places left to.None = left
left_with_successors places left (to.One a) = left_with places left a
left_with_successors places left (to.Two a b) = left_with (with_place places a) (left_with places left a) b
left_with_successors places left to.Any = []

-- how many places are not found
unfoldable pub missing : List Bool → ℕ
missing [] = 0
missing (true ∷ places) = missing places
missing (false ∷ places) = missing places + 1

-- Ways lead to each place that is found, and to each that is left; where one is found that is not left, nor one of `also`,
-- the places to which it leads are found.
pub record IsSearch (image : ImageValue) (places : List Bool) (left : List ℕ) (also : ℕ → Type 0) : Type 0 where
  pub each : length places ≡ length image.program
  pub found : (k : ℕ) → IsTrue (slice_index_or places k false) → IsReachable image k
  pub waits : (k : ℕ) → Contains left k → IsReachable image k
  pub followed : (k : ℕ) → IsTrue (slice_index_or places k false)
      → Contains left k ⊎ (also k ⊎ ((j : ℕ) → LeadsTo image k j → IsTrue (is_reached places j)))

-- where streams begin is found
abbrev pub HasBeginnings : ImageValue → List Bool → Type 0
HasBeginnings image places = (k : ℕ) → IsBeginning image k → IsTrue (is_reached places k)
