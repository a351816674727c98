-- Marks of places: 0 where a place is marked. How they spread along links, and those by which terminal components are found.
use Rattle.std.specs.Prelude.{◌≡◌, ◌≢◌, ◌↔◌, ℕ, ◌<◌, Bool, Option, Some, None, List, length, slice_index, slice_index_or}
use Rattle.std.specs.Prelude.{Contains}
use Rattle.terminal_components.specs.declared.links.Link.{Link}
use Rattle.terminal_components.specs.Ways.{Reaches, link_at}
use Rattle.terminal_components.specs.Reachability.{IsMarked}
use Rattle.terminal_components.specs.Components.{IsLeast}

-- the places are marked that can reach one that was marked
pub record AreSpreadMarks (links : List Link) (old new : List ℕ) : Type 0 where
  pub many : length new ≡ length old
  pub found :
      (k : ℕ) → k < length old → slice_index new k ≡ 0
      → (j : ℕ) × (j < length old) × (slice_index old j ≡ 0) × Reaches (length old) links k j
  pub all :
      (k j : ℕ) → k < length old → slice_index old j ≡ 0 → Reaches (length old) links k j → slice_index new k ≡ 0

-- there is a mark for each of n places, and the goals among them are marked
pub record AreGoalMarks (n : ℕ) (goals marks : List ℕ) : Type 0 where
  pub many : length marks ≡ n
  pub found : (k : ℕ) → k < n → slice_index marks k ≡ 0 → Contains goals k
  pub all : (k : ℕ) → k < n → Contains goals k → slice_index marks k ≡ 0

-- which places are marked
pub record AreMarkBits (marks : List ℕ) (are : List Bool) : Type 0 where
  pub many : length are ≡ length marks
  pub each : (k : ℕ) → k < length marks → IsMarked are k ↔ (slice_index marks k ≡ 0)

-- each number is its own place
pub record AreNumbers (n : ℕ) (values : List ℕ) : Type 0 where
  pub many : length values ≡ n
  pub each : (k : ℕ) → k < n → slice_index values k ≡ k

-- for each place the least one that it can reach
pub record AreLeast (n : ℕ) (links : List Link) (values : List ℕ) : Type 0 where
  pub many : length values ≡ n
  pub each : (k : ℕ) → k < n → IsLeast n links k (slice_index values k)

-- the link leads from a place to one with another least place: that place is an exit
abbrev pub IsExit : List ℕ → Link → Type 0
IsExit least l =
    (l.from < length least) × (l.to < length least) × (slice_index least l.from ≢ slice_index least l.to)

-- the exits are marked
pub record AreExitMarks (links : List Link) (least marks : List ℕ) : Type 0 where
  pub many : length marks ≡ length least
  pub found :
      (k : ℕ) → k < length least → slice_index marks k ≡ 0
      → (i : ℕ) × (i < length links) × ((link_at links i).from ≡ k) × IsExit least (link_at links i)
  pub all : (i : ℕ) → i < length links → IsExit least (link_at links i) → slice_index marks (link_at links i).from ≡ 0

-- the place can reach an exit
abbrev pub IsStray : List Link → List ℕ → ℕ → Type 0
IsStray links least k =
    (i : ℕ) × (i < length links) × IsExit least (link_at links i) × Reaches (length least) links k (link_at links i).from

-- those places are marked
pub record AreStrayMarks (links : List Link) (least marks : List ℕ) : Type 0 where
  pub many : length marks ≡ length least
  pub found : (k : ℕ) → k < length least → slice_index marks k ≡ 0 → IsStray links least k
  pub all : (k : ℕ) → k < length least → IsStray links least k → slice_index marks k ≡ 0

-- the place is the least that it can reach, and is not marked as one that can reach an exit
abbrev pub IsRoot : List ℕ → List ℕ → ℕ → Type 0
IsRoot least strays k = (slice_index least k ≡ k) × (slice_index strays k ≢ 0)

-- those places are marked
pub record AreRootMarks (least strays marks : List ℕ) : Type 0 where
  pub many : length marks ≡ length least
  pub found : (k : ℕ) → k < length least → slice_index marks k ≡ 0 → IsRoot least strays k
  pub all : (k : ℕ) → k < length least → IsRoot least strays k → slice_index marks k ≡ 0

-- a root can reach the place
abbrev pub IsMember : List Link → List ℕ → List ℕ → ℕ → Type 0
IsMember links least strays k =
    (root : ℕ) × (root < length least) × IsRoot least strays root × Reaches (length least) links root k

-- those places are marked
pub record AreMemberMarks (links : List Link) (least strays marks : List ℕ) : Type 0 where
  pub many : length marks ≡ length least
  pub found : (k : ℕ) → k < length least → slice_index marks k ≡ 0 → IsMember links least strays k
  pub all : (k : ℕ) → k < length least → IsMember links least strays k → slice_index marks k ≡ 0

-- the reversed link
abbrev pub flip : Link → Link
flip l = record { from = l.to; to = l.from }

-- the least place of each that is marked, and None of the others
pub record AreMemberRoots (least marks : List ℕ) (roots : List (Option ℕ)) : Type 0 where
  pub many : length roots ≡ length least
  pub marked : (k : ℕ) → k < length least → slice_index marks k ≡ 0 → slice_index_or roots k None ≡ Some (slice_index least k)
  pub others : (k : ℕ) → k < length least → slice_index marks k ≢ 0 → slice_index_or roots k None ≡ None
