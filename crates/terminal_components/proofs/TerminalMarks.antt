-- The places of terminal components.
use Rattle.std.proofs.Common.{◌≡◌, ◌≢◌, ℕ, ◌<◌, ◌≤◌, refl, sym, ap, ◌∙◌, subst, arith, List, [], ◌∷◌, length, get_or}
use Rattle.std.proofs.Common.{◌⊎◌, inl, inr, Option, None, map, reverse}
use Rattle.std.specs.Prelude.{MatchOption}
use Rattle.std.proofs.lemmas.Bool.{cases_eq}
use Rattle.terminal_components.specs.declared.links.Link.{Link}
use Rattle.terminal_components.specs.Ways.{IsWay, IsFrom, Reaches, link_at}
use Rattle.terminal_components.specs.Values.{IsLowest}
use Rattle.terminal_components.specs.Components.{IsTerminal, IsLeast, AreRoots}
use Rattle.terminal_components.specs.ReachMarks.{AreSpreadMarks, AreNumbers, AreLeast, AreExitMarks, IsStray, AreStrayMarks, AreRootMarks, IsMember, AreMemberMarks}
use Rattle.terminal_components.specs.ReachMarks.{flip, AreMemberRoots}
use Rattle.terminal_components.proofs.Ways.{way_inside, reaches_on}
use Rattle.terminal_components.proofs.Mirrors.{Mirrors, reaches_back, mirrors, mirrored}

-- The lowest of values where links add nothing.

-- a value is that of some place that is led to
pub lowest_found : (links : List Link) (start new : List ℕ) → IsLowest links 0 start new → (k : ℕ) → k < length new
    → (j : ℕ) × (j < length new) × Reaches (length new) links k j × (get_or new k 0 ≡ get_or start j 0)
lowest_found links start new low k below =
    let r = low.reached k below in
    (r.to, way_inside (length new) links r.numbers k r.to below r.way, (r.numbers, r.way), omega (arith, r.is))

pub lowest_all : (links : List Link) (start new : List ℕ) → IsLowest links 0 start new → (k j : ℕ) → k < length new
    → Reaches (length new) links k j → get_or new k 0 ≤ get_or start j 0
lowest_all links start new low k j below reaches =
    let less = low.least k reaches.0 j below reaches.1 in
    omega (arith, less)

pub least_of : (n : ℕ) (links : List Link) (start new : List ℕ) → AreNumbers n start → IsLowest links 0 start new
    → AreLeast n links new
least_of n links start new numbers low = record {
  many = many;
  each = λ k below. subst (λ (m : ℕ). IsLeast m links k (get_or new k 0)) many (each k (omega (arith, below, many)));
} where
  many : length new ≡ n
  many = low.many ∙ numbers.many

  each : (k : ℕ) → k < length new → IsLeast (length new) links k (get_or new k 0)
  each k below =
      let found = lowest_found links start new low k below in
      let same : found.0 ≡ get_or new k 0 =
      sym (numbers.each found.0 (omega (arith, found.1, many))) ∙ sym found.3 in
      record {
        reaches = subst (Reaches (length new) links k) same found.2;
        least = λ j reaches.
            let inside = way_inside (length new) links reaches.0 k j below reaches.1 in
            let less = lowest_all links start new low k j below reaches in
            omega (arith, less, numbers.each j (omega (arith, inside, many)));
      }

-- Where a place does not stray, all that it leads to have the same least place.

pub same_along : (links : List Link) (least : List ℕ) (k : ℕ) → (IsStray links least k → ⊥) → (numbers : List ℕ) (x j : ℕ)
    → Reaches (length least) links k x → IsWay (length least) links x numbers j → get_or least j 0 ≡ get_or least x 0
same_along links least k stays [] x j reaches way = ap (λ i. get_or least i 0) (sym way)
same_along links least k stays (i ∷ is) x j reaches way =
    let l = link_at links i in
    let n = length least in
    let next : Reaches n links k l.to = reaches_on n links k x l.to reaches (i ∷ [], (way.0, refl)) in
    let rest = same_along links least k stays is l.to j next way.1 in
    let here : get_or least l.from 0 ≡ get_or least x 0 = ap (λ m. get_or least m 0) way.0.from_is in
    elim (cases_eq (get_or least l.from 0) (get_or least l.to 0)) [
      | inl same ↦ omega (arith, rest, here, same)
      | inr apart ↦
          absurd (stays (
            i,
            way.0.there,
            (omega (arith, way.0.from_is, way.0.from_in), way.0.to_in, apart),
            subst (Reaches n links k) (sym way.0.from_is) reaches,
          ))
    ]

-- in a terminal component all have the same least place
same_in_set : (n : ℕ) (links : List Link) (least : List ℕ) → AreLeast n links least → (k x : ℕ) → k < n → x < n
    → IsTerminal n links k → Reaches n links k x → get_or least x 0 ≡ get_or least k 0
same_in_set n links least are k x below inside terminal reaches =
    let mine = are.each k below in
    let other = are.each x inside in
    let low = other.least (get_or least k 0) (reaches_on n links x k (get_or least k 0) (terminal x reaches) mine.reaches) in
    let high = mine.least (get_or least x 0) (reaches_on n links k x (get_or least x 0) reaches other.reaches) in
    omega (arith, low, high)

-- a place that a root can reach belongs to one
held_settled : (links : List Link) (least strays : List ℕ) → AreLeast (length least) links least
    → AreStrayMarks links least strays → (k : ℕ) → IsMember links least strays k → IsTerminal (length least) links k
held_settled links least strays are lost k held j reaches =
    let n = length least in
    let root = held.0 in
    let on : Reaches n links root j = reaches_on n links root k j held.3 reaches in
    let inside = way_inside n links on.0 root j held.1 on.1 in
    let stays : IsStray links least root → ⊥ = λ stray. held.2.1 (lost.all root held.1 stray) in
    let same : get_or least j 0 ≡ root = same_along links least root stays on.0 root j ([], refl) on.1 ∙ held.2.0 in
    let back : Reaches n links j root = subst (Reaches n links j) same ((are.each j inside).reaches) in
    reaches_on n links j root k back held.3

-- a root can reach each place that belongs to one
settled_held : (links : List Link) (least strays : List ℕ) → AreLeast (length least) links least
    → AreStrayMarks links least strays → (k : ℕ) → k < length least → IsTerminal (length least) links k
    → IsMember links least strays k
settled_held links least strays are lost k below terminal =
    (root, inside, (is_least, stays), terminal root mine.reaches) where
      n : ℕ
      n = length least

      root : ℕ
      root = get_or least k 0

      mine : IsLeast n links k root
      mine = are.each k below

      inside : root < n
      inside = way_inside n links mine.reaches.0 k root below mine.reaches.1

      is_least : get_or least root 0 ≡ root
      is_least = same_in_set n links least are k root below inside terminal mine.reaches

      stays : get_or strays root 0 ≢ 0
      stays zero_there =
          let stray = lost.found root inside zero_there in
          let l = link_at links stray.0 in
          let to_from = reaches_on n links k root l.from mine.reaches stray.3 in
          let step : IsFrom n links stray.0 l.from = record {
            there = stray.1;
            from_is = refl;
            from_in = stray.2.0;
            to_in = stray.2.1;
          } in
          let to_to = reaches_on n links k l.from l.to to_from (stray.0 ∷ [], (step, refl)) in
          stray.2.2
          (same_in_set n links least are k l.from below stray.2.0 terminal to_from
          ∙ sym (same_in_set n links least are k l.to below stray.2.1 terminal to_to))

-- The marks.

pub spread_by : (links : List Link) (old new : List ℕ) → IsLowest links 0 old new → AreSpreadMarks links old new
spread_by links old new low = record {
  many = low.many;
  found = λ k below zero_there.
      let to = lowest_found links old new low k (omega (arith, below, low.many)) in (
        to.0,
        omega (arith, to.1, low.many),
        sym to.3 ∙ zero_there,
        subst (λ (m : ℕ). Reaches m links k to.0) low.many to.2,
      );
  all = λ k j below zero_there reaches.
      let leads_too = subst (λ (m : ℕ). Reaches m links k j) (sym low.many) reaches in
      let less = lowest_all links old new low k j (omega (arith, below, low.many)) leads_too in
      omega (arith, less, zero_there);
}

pub strays_by : (links : List Link) (least left new : List ℕ) → AreExitMarks links least left → AreSpreadMarks links left new
    → AreStrayMarks links least new
strays_by links least left new are spread = record {
  many = spread.many ∙ are.many;
  found = λ k below zero_there.
      let to = spread.found k (omega (arith, below, are.many)) zero_there in
      let link = are.found to.0 (omega (arith, to.1, are.many)) to.2 in (
        link.0,
        link.1,
        link.3,
        subst (Reaches (length least) links k) (sym link.2) (subst (λ (m : ℕ). Reaches m links k to.0) are.many to.3),
      );
  all = λ k below stray.
      let from = (link_at links stray.0).from in
      let reaches = subst (λ (m : ℕ). Reaches m links k from) (sym are.many) stray.3 in
      spread.all k from (omega (arith, below, are.many)) (are.all stray.0 stray.1 stray.2) reaches;
}

pub held_by : (links back : List Link) (least strays roots new : List ℕ) → back ≡ map flip (reverse links)
    → AreRootMarks least strays roots → AreSpreadMarks back roots new → AreMemberMarks links least strays new
held_by links back least strays roots new is are spread = record {
  many = spread.many ∙ are.many;
  found = λ k below zero_there.
      let to = spread.found k (omega (arith, below, are.many)) zero_there in
      let inside : to.0 < length least = omega (arith, to.1, are.many) in
      let reaches = subst (λ (m : ℕ). Reaches m back k to.0) are.many to.3 in (
        to.0,
        inside,
        are.found to.0 inside to.2,
        reaches_back (length least) back links (subst (λ (xs : List Link). Mirrors xs links) (sym is) (mirrors links)) reaches.0 k to.0 reaches.1,
      );
  all = λ k below on.
      let reaches =
      reaches_back (length least) links back (subst (Mirrors links) (sym is) (mirrored links)) on.3.0 on.0 k on.3.1 in
      spread.all k on.0 (omega (arith, below, are.many)) (are.all on.0 on.1 on.2)
      (subst (λ (m : ℕ). Reaches m back k on.0) (sym are.many) reaches);
}

-- All together.

pub roots_by : (n : ℕ) (links : List Link) (least strays marks : List ℕ) (roots : List (Option ℕ)) → AreLeast n links least
    → AreStrayMarks links least strays → AreMemberMarks links least strays marks → AreMemberRoots least marks roots
    → AreRoots n links roots
roots_by n links least strays marks roots are lost held told = record {
  many = told.many ∙ are.many;
  each = λ k below. subst (λ (m : ℕ). Is m k (get_or roots k None)) are.many (each k (omega (arith, below, are.many)));
} where
  Is : ℕ → ℕ → Option ℕ → Type 0
  Is m k root = MatchOption root (¬ (IsTerminal m links k)) (λ h. IsTerminal m links k × IsLeast m links k h)

  are_too : AreLeast (length least) links least
  are_too = subst (λ (m : ℕ). AreLeast m links least) (sym are.many) are

  each : (k : ℕ) → k < length least → Is (length least) k (get_or roots k None)
  each k below = by_case (cases_eq (get_or marks k 0) 0) where
    by_case : (get_or marks k 0 ≡ 0) ⊎ (get_or marks k 0 ≡ 0 → ⊥) → Is (length least) k (get_or roots k None)
    by_case (inl marked) =
        subst (Is (length least) k) (sym (told.marked k below marked)) (
          held_settled links least strays are_too lost k (held.found k below marked),
          are_too.each k below,
        )
    by_case (inr off) =
        subst (Is (length least) k) (sym (told.others k below off))
        (λ terminal. off (held.all k below (settled_held links least strays are_too lost k below terminal)))
