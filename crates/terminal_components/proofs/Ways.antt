-- Ways along links.
use Rattle.std.proofs.Common.{ℕ, ◌<◌, refl, sym, subst, List, [], ◌∷◌, ◌++◌}
use Rattle.terminal_components.specs.declared.links.Link.{Link}
use Rattle.terminal_components.specs.Ways.{IsWay, IsFrom, Reaches, link_at}

-- a way from one of the places ends at one of them
pub way_inside : (n : ℕ) (links : List Link) (numbers : List ℕ) (from to : ℕ) → from < n → IsWay n links from numbers to
    → to < n
way_inside n links [] from to below way = subst (λ (k : ℕ). k < n) way below
way_inside n links (i ∷ is) from to below way = way_inside n links is (link_at links i).to to way.0.to_in way.1

-- one way after the other
pub way_append : (n : ℕ) (links : List Link) (xs ys : List ℕ) (from over to : ℕ) → IsWay n links from xs over
    → IsWay n links over ys to → IsWay n links from (xs ++ ys) to
way_append n links [] ys from over to first second = subst (λ (k : ℕ). IsWay n links k ys to) (sym first) second
way_append n links (i ∷ is) ys from over to first second =
    (first.0, way_append n links is ys (link_at links i).to over to first.1 second)

-- one link more
pub way_push : (n : ℕ) (links : List Link) (xs : List ℕ) (i from over : ℕ) → IsWay n links from xs over
    → IsFrom n links i over → IsWay n links from (xs ++ i ∷ []) (link_at links i).to
way_push n links xs i from over first is =
    way_append n links xs (i ∷ []) from over (link_at links i).to first (is, refl)

pub reaches_on : (n : ℕ) (links : List Link) (from over to : ℕ) → Reaches n links from over → Reaches n links over to
    → Reaches n links from to
reaches_on n links from over to first second =
    (first.0 ++ second.0, way_append n links first.0 second.0 from over to first.1 second.1)
