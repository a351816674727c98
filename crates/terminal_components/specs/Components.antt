-- Terminal components: the strongly connected components that no link leaves. Each is all that one of its places can reach,
-- and each of these can reach that place.
use Rattle.std.specs.Prelude.{◌≡◌, ℕ, ◌<◌, ◌≤◌, ◌↔◌, Option, Some, None, List, length, slice_index_or, MatchOption, Contains}
use Rattle.terminal_components.specs.declared.links.Link.{Link}
use Rattle.terminal_components.specs.Ways.{IsFrom, Reaches, link_at}

-- the place belongs to one: each place that it can reach can reach it
abbrev pub IsTerminal : ℕ → List Link → ℕ → Type 0
IsTerminal n links k = (j : ℕ) → Reaches n links k j → Reaches n links j k

-- the least of the places that a place can reach
pub record IsLeast (n : ℕ) (links : List Link) (k root : ℕ) : Type 0 where
  pub reaches : Reaches n links k root
  pub least : (j : ℕ) → Reaches n links k j → root ≤ j

-- for each place the root, the least one, of the terminal component that it belongs to; None if it belongs to none
pub record AreRoots (n : ℕ) (links : List Link) (roots : List (Option ℕ)) : Type 0 where
  pub many : length roots ≡ n
  pub each :
      (k : ℕ) → k < n
      → MatchOption (slice_index_or roots k None) (¬ (IsTerminal n links k)) (λ root.
      IsTerminal n links k × IsLeast n links k root
      )

-- the places of a list are one: there is a place, no link leaves them, and each can reach each
pub record IsTerminalComponent (n : ℕ) (links : List Link) (places : List ℕ) : Type 0 where
  pub some : (k : ℕ) × Contains places k
  pub inside : (k : ℕ) → Contains places k → k < n
  pub closed : (i k : ℕ) → Contains places k → IsFrom n links i k → Contains places (link_at links i).to
  pub together : (j k : ℕ) → Contains places j → Contains places k → Reaches n links j k

-- The places with one root are a terminal component, whose least place is the root, and each one is that of a root.
pub record AreTerminalComponents (n : ℕ) (links : List Link) (roots : List (Option ℕ)) : Type 0 where
  pub least :
      (k root : ℕ) → k < n → slice_index_or roots k None ≡ Some root
      → (root ≤ k) × (slice_index_or roots root None ≡ Some root)
  pub closed :
      (i k root : ℕ) → IsFrom n links i k → slice_index_or roots k None ≡ Some root
      → slice_index_or roots (link_at links i).to None ≡ Some root
  pub together :
      (j k root : ℕ) → j < n → k < n → slice_index_or roots j None ≡ Some root
      → slice_index_or roots k None ≡ Some root → Reaches n links j k
  pub all :
      (places : List ℕ) → IsTerminalComponent n links places
      → (root : ℕ) × ((k : ℕ) → k < n → Contains places k ↔ (slice_index_or roots k None ≡ Some root))
