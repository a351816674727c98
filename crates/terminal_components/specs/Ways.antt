-- Places, links between them, and ways along links.
use Rattle.std.specs.Prelude.{◌≡◌, ℕ, ◌<◌, List, [], ◌∷◌, length, slice_index_or}
use Rattle.terminal_components.specs.declared.links.Link.{Link}

-- what stands for a link where there is none
abbrev pub no_link : Link
no_link = record { from = 0; to = 0 }

-- the link with a number
abbrev pub link_at : List Link → ℕ → Link
link_at links i = slice_index_or links i no_link

-- The link with a number leads from a place, of the first n, to one of them.
pub record IsFrom (n : ℕ) (links : List Link) (i from : ℕ) : Type 0 where
  pub there : i < length links
  pub from_is : (link_at links i).from ≡ from
  pub from_in : from < n
  pub to_in : (link_at links i).to < n

-- the links with these numbers lead one after the other from a place to another one
abbrev pub IsWay : ℕ → List Link → ℕ → List ℕ → ℕ → Type 0
IsWay n links from [] to = from ≡ to
IsWay n links from (i ∷ is) to = IsFrom n links i from × IsWay n links (link_at links i).to is to

-- a place can reach another one by some way; each can reach itself
abbrev pub Reaches : ℕ → List Link → ℕ → ℕ → Type 0
Reaches n links from to = (is : List ℕ) × IsWay n links from is to
