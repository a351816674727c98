-- Distances to a place, and cycles.
use Rattle.std.proofs.Common.{◌≡◌, ℕ, zero, suc, ◌+◌, ◌<◌, ◌≤◌, refl, sym, ap, ◌∙◌, subst, arith, List, [], ◌∷◌}
use Rattle.std.proofs.Common.{◌⊎◌, inl, inr, length, get_or, set, replicate, length-set}
use Rattle.std.proofs.lemmas.Bool.{cases_eq}
use Rattle.std.proofs.lemmas.List.{get_or-set_same, get_or-set_other, get_or-replicate, length-replicate}
use Rattle.terminal_components.specs.declared.links.Link.{Link}
use Rattle.terminal_components.specs.Ways.{IsWay, IsFrom, link_at}
use Rattle.terminal_components.specs.Values.{IsReachedValue, IsLowest, far, near_count, AreNear}
use Rattle.terminal_components.specs.Cycles.{AreDistances, LinksFrom, HasNoNearLink, IsNearestLink}
use Rattle.terminal_components.proofs.Ways.{way_inside}
use Rattle.terminal_components.proofs.Values.{far_one, count_far, near_below}

-- The distances where there is no link.

abbrev pub distances_without : ℕ → ℕ → List ℕ
distances_without n place = set (replicate n far) place 0

none_near : (n : ℕ) → near_count (replicate n far) ≡ 0
none_near zero = refl
none_near (suc n) =
    let rest = none_near n in
    let none = far_one far (omega arith) in
    omega (arith, rest, none)

pub many_without : (n place : ℕ) → length (distances_without n place) ≡ n
many_without n place = length-set (replicate n far) place 0 ∙ length-replicate n far

at_place : (n place : ℕ) → place < n → get_or (distances_without n place) place 0 ≡ 0
at_place n place below = get_or-set_same (replicate n far) place 0 0 (omega (arith, below, length-replicate n far))

elsewhere : (n place k : ℕ) → k < n → (k ≡ place → ⊥) → get_or (distances_without n place) k 0 ≡ far
elsewhere n place k below apart =
    get_or-set_other (replicate n far) place k 0 0 apart ∙ get_or-replicate n k far 0 below

pub near_without : (n place : ℕ) → AreNear (distances_without n place)
near_without n place k below near = by_case (cases_eq k place) where
  inside : k < n
  inside = omega (arith, below, many_without n place)

  by_case : (k ≡ place) ⊎ (k ≡ place → ⊥) → get_or (distances_without n place) k 0 < near_count (distances_without n place)
  by_case (inl same) =
      let there : place < n = omega (arith, inside, same) in
      let value : get_or (distances_without n place) k 0 ≡ 0 =
      ap (λ j. get_or (distances_without n place) j 0) same ∙ at_place n place there in
      let was = get_or-replicate n place far 0 there in
      let one =
      count_far (replicate n far) place 0 (omega (arith, there, length-replicate n far)) (omega arith)
      (omega (arith, was)) in
      omega (arith, value, one, none_near n)
  by_case (inr apart) = absurd (omega (arith, near, elsewhere n place k inside apart))

-- The lowest of them are distances.

-- a place from which a way leads there is near
near_by : (n : ℕ) (links : List Link) (place : ℕ) (new : List ℕ) → length new ≡ n → n < far → AreNear new
    → ((k : ℕ) → k < n → get_or new k 0 < far
    → (numbers : List ℕ) × IsWay n links k numbers place × (get_or new k 0 ≡ length numbers))
    → ((k : ℕ) (numbers : List ℕ) → k < n → IsWay n links k numbers place → get_or new k 0 ≤ length numbers)
    → (numbers : List ℕ) (k : ℕ) → k < n → IsWay n links k numbers place → get_or new k 0 < far
near_by n links place new many few near ways least [] k below way =
    let less = least k [] below way in
    omega (arith, less)
near_by n links place new many few near ways least (i ∷ is) k below way =
    let to = (link_at links i).to in
    let rest = near_by n links place new many few near ways least is to way.0.to_in way.1 in
    let on = ways to way.0.to_in rest in
    let less = least k (i ∷ on.0) below (way.0, on.1) in
    let small = near_below new to near (omega (arith, way.0.to_in, many)) rest in
    omega (arith, less, on.2, small, many, few)

pub distances_by : (n : ℕ) (links : List Link) (place : ℕ) (start new : List ℕ) → start ≡ distances_without n place
    → n < far → IsLowest links 1 start new → AreNear new → AreDistances n links place new
distances_by n links place start new is few low near = record {
  many = many;
  way = ways;
  near = λ k numbers below way. near_by n links place new many few near ways least numbers k below way;
  least = least;
} where
  many : length new ≡ n
  many = low.many ∙ ap length is ∙ many_without n place

  start_at : (k : ℕ) → get_or start k 0 ≡ get_or (distances_without n place) k 0
  start_at k = ap (λ xs. get_or xs k 0) is

  least : (k : ℕ) (numbers : List ℕ) → k < n → IsWay n links k numbers place → get_or new k 0 ≤ length numbers
  least k numbers below way =
      let there = way_inside n links numbers k place below way in
      let less =
      low.least k numbers place (omega (arith, below, many))
      (subst (λ (m : ℕ). IsWay m links k numbers place) (sym many) way) in
      omega (arith, less, start_at place, at_place n place there)

  by_to : (k : ℕ) → get_or new k 0 < far → (r : IsReachedValue (length new) links 1 start k (get_or new k 0))
      → r.to < length new
      → (numbers : List ℕ) × IsWay n links k numbers place × (get_or new k 0 ≡ length numbers)
  by_to k small r inside = by_case (cases_eq r.to place) where
    by_case : (r.to ≡ place) ⊎ (r.to ≡ place → ⊥)
        → (numbers : List ℕ) × IsWay n links k numbers place × (get_or new k 0 ≡ length numbers)
    by_case (inl same) = (
      r.numbers,
      subst (IsWay n links k r.numbers) same (subst (λ (m : ℕ). IsWay m links k r.numbers r.to) many r.way),
      omega (
        arith,
        r.is,
        ap (λ j. get_or start j 0) same,
        start_at place,
        at_place n place (omega (arith, inside, many, same)),
      ),
    )
    by_case (inr apart) =
        absurd (omega (arith, r.is, small, start_at r.to, elsewhere n place r.to (omega (arith, inside, many)) apart))

  ways : (k : ℕ) → k < n → get_or new k 0 < far
      → (numbers : List ℕ) × IsWay n links k numbers place × (get_or new k 0 ≡ length numbers)
  ways k below small =
      let inside : k < length new = omega (arith, below, many) in
      let r = low.reached k inside in
      by_to k small r (way_inside (length new) links r.numbers k r.to inside r.way)

-- Along distances.

leads_of : (n : ℕ) (links : List Link) (i from : ℕ) (ds : List ℕ) → length ds ≡ n → IsFrom n links i from
    → LinksFrom (length ds) from (link_at links i)
leads_of n links i from ds many is =
    (is.from_is, omega (arith, is.from_in, is.from_is, many), omega (arith, is.to_in, many))

pub from_nearest : (n : ℕ) (links : List Link) (here : ℕ) (ds : List ℕ) (b : ℕ) → length ds ≡ n
    → IsNearestLink links ds here b → IsFrom n links b here
from_nearest n links here ds b many is = record {
  there = is.there;
  from_is = is.reaches.0;
  from_in = omega (arith, is.reaches.0, is.reaches.1, many);
  to_in = omega (arith, is.reaches.2, many);
}

-- no way that has a link is shorter than one by the nearest link
pub nearest_least : (n : ℕ) (links : List Link) (place : ℕ) (ds : List ℕ) (here b : ℕ) → AreDistances n links place ds
    → IsNearestLink links ds here b → (numbers : List ℕ) → IsWay n links here numbers place → 0 < length numbers
    → get_or ds (link_at links b).to 0 + 1 ≤ length numbers
nearest_least n links place ds here b d near [] way some = absurd (omega (arith, some))
nearest_least n links place ds here b d near (i ∷ is) way some =
    let less = near.least i way.0.there (leads_of n links i here ds d.many way.0) in
    let short = d.least (link_at links i).to is way.0.to_in way.1 in
    omega (arith, less, short)

-- where no link leads near, no way that has a link leads there
pub none_least : (n : ℕ) (links : List Link) (place : ℕ) (ds : List ℕ) (here : ℕ) → AreDistances n links place ds
    → HasNoNearLink links ds here → (numbers : List ℕ) → IsWay n links here numbers place → 0 < length numbers → ⊥
none_least n links place ds here d none [] way some = omega (arith, some)
none_least n links place ds here d none (i ∷ is) way some =
    let past = none i way.0.there (leads_of n links i here ds d.many way.0) in
    let near = d.near (link_at links i).to is way.0.to_in way.1 in
    omega (arith, past, near)

some_links : (n : ℕ) (links : List Link) (here place : ℕ) → (here ≡ place → ⊥) → (numbers : List ℕ)
    → IsWay n links here numbers place → 0 < length numbers
some_links n links here place apart [] way = absurd (apart way)
some_links n links here place apart (i ∷ is) way = omega arith

pub next_less : (n : ℕ) (links : List Link) (place : ℕ) (ds : List ℕ) (here b : ℕ) → AreDistances n links place ds
    → here < n → get_or ds here 0 < far → (here ≡ place → ⊥) → IsNearestLink links ds here b
    → get_or ds (link_at links b).to 0 + 1 ≤ get_or ds here 0
next_less n links place ds here b d below near apart nearest =
    let way = d.way here below near in
    let some = some_links n links here place apart way.0 way.1 in
    let less = nearest_least n links place ds here b d nearest way.0 way.1 some in
    omega (arith, less, way.2)

pub no_dead_end : (n : ℕ) (links : List Link) (place : ℕ) (ds : List ℕ) (here : ℕ) → AreDistances n links place ds
    → here < n → get_or ds here 0 < far → (here ≡ place → ⊥) → HasNoNearLink links ds here → ⊥
no_dead_end n links place ds here d below near apart none =
    let way = d.way here below near in
    none_least n links place ds here d none way.0 way.1 (some_links n links here place apart way.0 way.1)
