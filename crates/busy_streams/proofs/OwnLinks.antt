-- The edges of one stream, as links.
use Rattle.std.proofs.Common.{◌≡◌, ℕ, zero, suc, ◌<◌, refl, ap, ◌∙◌, arith, Bool, true, false, ◌==◌, ◌&&◌, eqb-true, eq-eqb}
use Rattle.std.proofs.Common.{List, [], ◌∷◌, map, filter, length, Contains, if◌then◌else◌}
use Rattle.std.proofs.lemmas.Bool.{and_parts}
use Rattle.processor.specs.declared.steps.Step.{Step}
use Rattle.terminal_components.specs.declared.links.Link.{Link}
use Rattle.terminal_components.specs.Ways.{link_at}
use Rattle.schedule_space.specs.declared.links.Edge.{Edge}
use Rattle.busy_streams.specs.OwnCycles.{is_step, link_of, own_links}

pub is-step : (t u : Step) → is_step t u ≡ true → u ≡ t
is-step t u is =
    let each = and_parts (u.p == t.p) (u.s == t.s) is in
    let p : u.p ≡ t.p = eqb-true u.p t.p each.0 in
    let s : u.s ≡ t.s = eqb-true u.s t.s each.1 in
    λ i. record { p = p i; s = s i }

pub step-is : (t : Step) → is_step t t ≡ true
step-is t =
    let p : (t.p == t.p) ≡ true = eq-eqb t.p t.p refl in
    let s : (t.s == t.s) ≡ true = eq-eqb t.s t.s refl in
    λ i. p i && s i

-- an edge of the stream is this link
pub record IsOf (t : Step) (es : List Edge) (l : Link) : Type 0 where
  pub edge : Edge
  pub there : Contains es edge
  pub own : edge.step ≡ t
  pub is : l ≡ link_of edge

behind : (t : Step) (x : Edge) (es : List Edge) (l : Link) → IsOf t es l → IsOf t (x ∷ es) l
behind t x es l found = record {
  edge = found.edge;
  there = (suc found.there.0, omega (arith, found.there.1), found.there.2);
  own = found.own;
  is = found.is;
}

-- the edges of the stream
abbrev kept : Step → List Edge → List Edge
kept t es = filter (λ (e : Edge). is_step t e.step) es

-- as links, with one in front where it is one
abbrev links_if : Step → Edge → List Edge → Bool → List Link
links_if t x xs b = map link_of (if b then x ∷ kept t xs else kept t xs)

found_if : (t : Step) (x : Edge) (xs : List Edge)
    → ((i : ℕ) → i < length (own_links t xs) → IsOf t xs (link_at (own_links t xs) i))
    → (b : Bool) → is_step t x.step ≡ b → (k : ℕ) → k < length (links_if t x xs b)
    → IsOf t (x ∷ xs) (link_at (links_if t x xs b) k)
found_if t x xs rest true own zero within =
    record { edge = x; there = (0, omega arith, refl); own = is-step t x.step own; is = refl }
found_if t x xs rest true own (suc k) within =
    behind t x xs (link_at (own_links t xs) k) (rest k (omega (arith, within)))
found_if t x xs rest false own k within = behind t x xs (link_at (own_links t xs) k) (rest k within)

-- each link is an edge of the stream
pub link-found : (t : Step) (es : List Edge) (i : ℕ) → i < length (own_links t es) → IsOf t es (link_at (own_links t es) i)
link-found t [] i below = absurd (omega (arith, below))
link-found t (x ∷ xs) i below = found_if t x xs (link-found t xs) (is_step t x.step) refl i below

-- the link is there, with this number
pub record HasLink (links : List Link) (l : Link) : Type 0 where
  pub number : ℕ
  pub there : number < length links
  pub is : link_at links number ≡ l

link_if : (t : Step) (x : Edge) (xs : List Edge) (e : Edge) → e.step ≡ t
    → (Contains xs e → HasLink (own_links t xs) (link_of e)) → (b : Bool) → is_step t x.step ≡ b
    → Contains (x ∷ xs) e → HasLink (links_if t x xs b) (link_of e)
link_if t x xs e own rest true is (zero, within, at) = record { number = 0; there = omega arith; is = ap link_of at }
link_if t x xs e own rest true is (suc k, within, at) =
    let more = rest (k, omega (arith, within), at) in
    let below = more.there in
    record { number = suc more.number; there = omega (arith, below); is = more.is }
link_if t x xs e own rest false is (zero, within, at) =
    let same : is_step t x.step ≡ true = ap (λ (d : Edge). is_step t d.step) at ∙ ap (is_step t) own ∙ step-is t in
    let no : ⊥ = cc in
    absurd no
link_if t x xs e own rest false is (suc k, within, at) = rest (k, omega (arith, within), at)

-- each edge of the stream is a link
pub edge-found : (t : Step) (es : List Edge) (e : Edge) → Contains es e → e.step ≡ t
    → HasLink (own_links t es) (link_of e)
edge-found t [] e there own = absurd (let below = there.1 in omega (arith, below))
edge-found t (x ∷ xs) e there own =
    link_if t x xs e own (λ inner. edge-found t xs e inner own) (is_step t x.step) refl there
