-- Places that can reach given ones.
use Rattle.std.specs.Prelude.{◌≡◌, ℕ, ◌<◌, Bool, false, IsTrue, List, length, slice_index_or, Contains}
use Rattle.terminal_components.specs.declared.links.Link.{Link}
use Rattle.terminal_components.specs.Ways.{Reaches}

-- the place is marked
abbrev pub IsMarked : List Bool → ℕ → Type 0
IsMarked marks k = IsTrue (slice_index_or marks k false)

-- the place can reach one of these, which may be itself
abbrev pub ReachesOne : ℕ → List Link → List ℕ → ℕ → Type 0
ReachesOne n links goals k = (goal : ℕ) × Contains goals goal × Reaches n links k goal

-- there is a mark for each of n places, and just those are marked that can reach one of the goals
pub record AreBackwardReachable (n : ℕ) (links : List Link) (goals : List ℕ) (marks : List Bool) : Type 0 where
  pub many : length marks ≡ n
  pub sound : (k : ℕ) → k < n → IsMarked marks k → ReachesOne n links goals k
  pub all : (k : ℕ) → k < n → ReachesOne n links goals k → IsMarked marks k
