-- Cycles, and distances to a place.
use Rattle.std.specs.Prelude.{◌≡◌, ℕ, ◌<◌, ◌≤◌, List, length, slice_index}
use Rattle.terminal_components.specs.declared.links.Link.{Link}
use Rattle.terminal_components.specs.Ways.{IsWay, link_at}
use Rattle.terminal_components.specs.Values.{far}

-- the links with these numbers are a cycle through the place: they lead from it back to it, and there is one
abbrev pub IsCycle : ℕ → List Link → ℕ → List ℕ → Type 0
IsCycle n links place numbers = IsWay n links place numbers place × (0 < length numbers)

-- so, and no shorter one is
pub record IsShortestCycle (n : ℕ) (links : List Link) (place : ℕ) (numbers : List ℕ) : Type 0 where
  pub cycle : IsCycle n links place numbers
  pub shortest : (others : List ℕ) → IsCycle n links place others → length numbers ≤ length others

-- no cycle goes through the place
abbrev pub HasNoCycle : ℕ → List Link → ℕ → Type 0
HasNoCycle n links place = (numbers : List ℕ) → ¬ (IsCycle n links place numbers)

-- for each place how many links a shortest way from it has to one of them; `far` where no way leads there
pub record AreDistances (n : ℕ) (links : List Link) (place : ℕ) (values : List ℕ) : Type 0 where
  pub many : length values ≡ n
  pub way :
      (k : ℕ) → k < n → slice_index values k < far
      → (numbers : List ℕ) × IsWay n links k numbers place × (slice_index values k ≡ length numbers)
  pub near : (k : ℕ) (numbers : List ℕ) → k < n → IsWay n links k numbers place → slice_index values k < far
  pub least : (k : ℕ) (numbers : List ℕ) → k < n → IsWay n links k numbers place → slice_index values k ≤ length numbers

-- the link leads from the place, of the first n, to one of them
abbrev pub LinksFrom : ℕ → ℕ → Link → Type 0
LinksFrom n place l = (l.from ≡ place) × (l.from < n) × (l.to < n)

-- no link from the place leads to one of a value below `far`
abbrev pub HasNoNearLink : List Link → List ℕ → ℕ → Type 0
HasNoNearLink links values place =
    (i : ℕ) → i < length links → LinksFrom (length values) place (link_at links i)
    → far ≤ slice_index values (link_at links i).to

-- the link with this number leads from the place to one of a value below `far`, and no link from there to a lower one
pub record IsNearestLink (links : List Link) (values : List ℕ) (place number : ℕ) : Type 0 where
  pub there : number < length links
  pub reaches : LinksFrom (length values) place (link_at links number)
  pub near : slice_index values (link_at links number).to < far
  pub least :
      (i : ℕ) → i < length links → LinksFrom (length values) place (link_at links i)
      → slice_index values (link_at links number).to ≤ slice_index values (link_at links i).to
