-- From which worlds an end can still be reached.
use Rattle.std.specs.Prelude.{◌≡◌, ℕ, suc, ◌<◌, ◌↔◌, Bool, false, IsTrue, List, [], ◌∷◌, length, slice_index_or}
use Rattle.std.specs.Prelude.{Contains, if◌then◌else◌}
pub use Rattle.agreeing_ends.specs.Followed.{IsEnd, CanEnd}
use Rattle.schedule_space.specs.declared.links.Edge.{Edge}
use Rattle.schedule_space.specs.Spaces.{SpaceValue, count, world_of}

-- Marks at the places of a space.

-- whether the world at a place is marked
abbrev pub IsMarked : List Bool → ℕ → Type 0
IsMarked marks k = IsTrue (slice_index_or marks k false)

-- there is a mark for each world, and just those of ends are set
pub record AreEnds (v : SpaceValue) (marks : List Bool) : Type 0 where
  pub each : length marks ≡ count v
  pub ends : (k : ℕ) → k < count v → IsMarked marks k ↔ IsEnd v.image (world_of v k)

-- there is a mark for each world, and from the marked ones an end can be reached
pub record CanAllEnd (v : SpaceValue) (marks : List Bool) : Type 0 where
  pub each : length marks ≡ count v
  pub ends : (k : ℕ) → k < count v → IsMarked marks k → CanEnd v.image (world_of v k)

-- each end is marked
abbrev pub HasEndsMarked : SpaceValue → List Bool → Type 0
HasEndsMarked v marks = (k : ℕ) → k < count v → IsEnd v.image (world_of v k) → IsMarked marks k

-- what is marked earlier is marked later
abbrev pub AreMarkedToo : List Bool → List Bool → Type 0
AreMarkedToo old new = (k : ℕ) → IsMarked old k → IsMarked new k

-- where an edge leads to a marked world, the one that it leads from is marked
abbrev pub AreMarkedBack : SpaceValue → List Bool → Type 0
AreMarkedBack v marks = (e : Edge) → Contains v.edges e → IsMarked marks e.to → IsMarked marks e.from

-- how many are marked
abbrev pub marked : List Bool → ℕ
marked [] = 0
marked (b ∷ bs) = if b then suc (marked bs) else marked bs
