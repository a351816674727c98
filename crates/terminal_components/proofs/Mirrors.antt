-- Links that lead the other way.
use Rattle.std.proofs.Common.{◌≡◌, ℕ, ◌-◌, ◌<◌, sym, ap, ◌∙◌, arith, List, [], ◌∷◌, length, map, reverse}
use Rattle.std.proofs.lemmas.List.{get_or-map, get_or-reverse, length-map, length-reverse}
use Rattle.terminal_components.specs.declared.links.Link.{Link}
use Rattle.terminal_components.specs.Ways.{IsWay, IsFrom, Reaches, no_link, link_at}
use Rattle.terminal_components.specs.ReachMarks.{flip}
use Rattle.terminal_components.proofs.Ways.{reaches_on}

-- each link of the first is one of the second, the other way
abbrev pub Mirrors : List Link → List Link → Type 0
Mirrors xs ys = (i : ℕ) → i < length xs → (j : ℕ) × (j < length ys) × (link_at xs i ≡ flip (link_at ys j))

-- so a way leads back
pub reaches_back : (n : ℕ) (xs ys : List Link) → Mirrors xs ys → (numbers : List ℕ) (from to : ℕ)
    → IsWay n xs from numbers to → Reaches n ys to from
reaches_back n xs ys mirror [] from to way = ([], sym way)
reaches_back n xs ys mirror (i ∷ is) from to way =
    let over = (link_at xs i).to in
    let rest = reaches_back n xs ys mirror is over to way.1 in
    let other = mirror i way.0.there in
    let same_from : (link_at ys other.0).from ≡ over = sym (ap (λ (l : Link). l.to) other.2) in
    let same_to : (link_at ys other.0).to ≡ from = sym (ap (λ (l : Link). l.from) other.2) ∙ way.0.from_is in
    let step : IsFrom n ys other.0 over = record {
      there = other.1;
      from_is = same_from;
      from_in = way.0.to_in;
      to_in = omega (arith, same_to, way.0.from_in);
    } in
    reaches_on n ys to over from rest (other.0 ∷ [], (step, same_to))

flipped_at : (links : List Link) (i : ℕ) → i < length links
    → link_at (map flip (reverse links)) i ≡ flip (link_at links (length links - 1 - i))
flipped_at links i below =
    get_or-map flip (reverse links) i no_link no_link (omega (arith, below, length-reverse links))
    ∙ ap flip (get_or-reverse links i no_link below)

pub many_flipped : (links : List Link) → length (map flip (reverse links)) ≡ length links
many_flipped links = length-map (reverse links) flip ∙ length-reverse links

pub mirrors : (links : List Link) → Mirrors (map flip (reverse links)) links
mirrors links i below =
    let inside : i < length links = omega (arith, below, many_flipped links) in
    (length links - 1 - i, omega (arith, inside), flipped_at links i inside)

pub mirrored : (links : List Link) → Mirrors links (map flip (reverse links))
mirrored links i below =
    let j = length links - 1 - i in
    let inside : j < length links = omega (arith, below) in
    let same : length links - 1 - j ≡ i = omega (arith, below) in (
      j,
      omega (arith, inside, many_flipped links),
      sym (ap flip (flipped_at links j inside ∙ ap (λ k. flip (link_at links k)) same)),
    )
