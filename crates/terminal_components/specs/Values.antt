-- Values of places, and the lowest that a place can reach if each link on the way adds a cost.
use Rattle.std.specs.Prelude.{◌≡◌, ℕ, ◌+◌, ◌-◌, ◌*◌, ◌^◌, ◌<◌, ◌≤◌, List, [], ◌∷◌, length, slice_index, cond, nat_lt}
use Rattle.terminal_components.specs.declared.links.Link.{Link}
use Rattle.terminal_components.specs.Ways.{IsWay, link_at}

-- there are as many, and none is higher
pub record IsNoHigher (old new : List ℕ) : Type 0 where
  pub many : length new ≡ length old
  pub none_higher : (k : ℕ) → slice_index new k ≤ slice_index old k

-- the value of the place that a link leads from is not above what it has by the link
abbrev pub IsLow : List ℕ → ℕ → Link → Type 0
IsLow values cost l =
    l.from < length values → l.to < length values → slice_index values l.from ≤ slice_index values l.to + cost

-- so is that of each link
abbrev pub AreLow : List Link → ℕ → List ℕ → Type 0
AreLow links cost values = (i : ℕ) → i < length links → IsLow values cost (link_at links i)

-- The place at the end of some way has such a value that what the way adds makes it this one.
pub record IsReachedValue (n : ℕ) (links : List Link) (cost : ℕ) (start : List ℕ) (from value : ℕ) : Type 0 where
  pub to : ℕ
  pub numbers : List ℕ
  pub way : IsWay n links from numbers to
  pub is : value ≡ slice_index start to + cost * length numbers

-- each value is one of a place that can be reached, with what the way there adds
abbrev pub AreReachedValues : List Link → ℕ → List ℕ → List ℕ → Type 0
AreReachedValues links cost start values =
    (k : ℕ) → k < length values → IsReachedValue (length values) links cost start k (slice_index values k)

-- the values are the lowest of the places that can be reached, with what the way there adds
pub record IsLowest (links : List Link) (cost : ℕ) (old new : List ℕ) : Type 0 where
  pub many : length new ≡ length old
  pub reached : AreReachedValues links cost old new
  pub least :
      (k : ℕ) (numbers : List ℕ) (to : ℕ) → k < length new → IsWay (length new) links k numbers to
      → slice_index new k ≤ slice_index old to + cost * length numbers

-- a value that stands for none: the largest one
abbrev pub far : ℕ
far = 2 ^ 64 - 1

-- how many values are below that
abbrev pub near_count : List ℕ → ℕ
near_count [] = 0
near_count (x ∷ xs) = cond (nat_lt x far) 1 0 + near_count xs

-- each value that is below that is also below the number of those that are
abbrev pub AreNear : List ℕ → Type 0
AreNear values = (k : ℕ) → k < length values → slice_index values k < far → slice_index values k < near_count values
