-- Values of places.
use Rattle.std.proofs.Common.{◌≡◌, ℕ, zero, suc, ◌+◌, ◌*◌, ◌-◌, ◌<◌, ◌≤◌, refl, sym, ap, ◌∙◌, subst, arith, List, [], ◌∷◌}
use Rattle.std.proofs.Common.{◌⊎◌, inl, inr, length, get_or, set, length-set, sum}
use Rattle.std.specs.Prelude.{cond, nat_lt}
use Rattle.std.proofs.lemmas.Bool.{cases_lt, cases_eq}
use Rattle.std.proofs.lemmas.Bool.Decides.{nat_tests}
use Rattle.std.proofs.lemmas.List.{get_or-set_same, get_or-set_other}
use Rattle.std.proofs.lemmas.List.Sums.{sum_by-set}
use Rattle.terminal_components.specs.declared.links.Link.{Link}
use Rattle.terminal_components.specs.Ways.{IsWay, link_at}
use Rattle.terminal_components.specs.Values.{IsNoHigher, IsLow, AreLow, IsReachedValue, AreReachedValues, IsLowest, far, near_count, AreNear}

-- Where no link is left to lower by, no way gives a lower value.

pub least_by : (links : List Link) (cost : ℕ) (old new : List ℕ) → IsNoHigher old new → AreLow links cost new
    → (numbers : List ℕ) (k to : ℕ) → k < length new → IsWay (length new) links k numbers to
    → get_or new k 0 ≤ get_or old to 0 + cost * length numbers
least_by links cost old new kept low [] k to below way =
    let same : get_or old k 0 ≡ get_or old to 0 = ap (λ n. get_or old n 0) way in
    let less = kept.none_higher k in
    omega (arith, same, less)
least_by links cost old new kept low (i ∷ is) k to below way =
    let l = link_at links i in
    let rest = least_by links cost old new kept low is l.to to way.0.to_in way.1 in
    let here : get_or new l.from 0 ≡ get_or new k 0 = ap (λ n. get_or new n 0) way.0.from_is in
    let from_in : l.from < length new = omega (arith, way.0.from_is, below) in
    let step = low i way.0.there from_in way.0.to_in in
    omega (arith, rest, here, step)

pub lowest_by : (links : List Link) (cost : ℕ) (old new : List ℕ) → IsNoHigher old new → AreReachedValues links cost old new
    → AreLow links cost new → IsLowest links cost old new
lowest_by links cost old new kept reached low = record {
  many = kept.many;
  reached = reached;
  least = λ k numbers to below way. least_by links cost old new kept low numbers k to below way;
}

-- at first each value is that of its own place
pub reached_first : (links : List Link) (cost : ℕ) (vs : List ℕ) → AreReachedValues links cost vs vs
reached_first links cost vs k below = record { to = k; numbers = []; way = refl; is = omega arith }

-- A value that is lowered.

pub reached_more : (links : List Link) (cost : ℕ) (start vs : List ℕ) (i w : ℕ) → i < length links
    → (link_at links i).from < length vs → (link_at links i).to < length vs
    → w ≡ get_or vs (link_at links i).to 0 + cost → AreReachedValues links cost start vs
    → AreReachedValues links cost start (set vs (link_at links i).from w)
reached_more links cost start vs i w there from_in to_in is all k below =
    subst (λ (n : ℕ). IsReachedValue n links cost start k (get_or (set vs l.from w) k 0)) (sym (length-set vs l.from w))
    (by_case (cases_eq k l.from)) where
      l : Link
      l = link_at links i

      inside : k < length vs
      inside = omega (arith, below, length-set vs l.from w)

      by_case : (k ≡ l.from) ⊎ (k ≡ l.from → ⊥)
          → IsReachedValue (length vs) links cost start k (get_or (set vs l.from w) k 0)
      by_case (inl same) =
          let r = all l.to to_in in
          let here : get_or (set vs l.from w) k 0 ≡ w =
          ap (λ n. get_or (set vs l.from w) n 0) same ∙ get_or-set_same vs l.from w 0 from_in in
          record {
            to = r.to;
            numbers = i ∷ r.numbers;
            way = (record { there = there; from_is = sym same; from_in = inside; to_in = to_in }, r.way);
            is = omega (arith, here, is, r.is);
          }
      by_case (inr apart) =
          subst (IsReachedValue (length vs) links cost start k) (sym (get_or-set_other vs l.from k w 0 apart)) (all k inside)

pub kept_more : (old vs : List ℕ) (f w : ℕ) → f < length vs → w ≤ get_or vs f 0 → IsNoHigher old vs → IsNoHigher old (set vs f w)
kept_more old vs f w from_in low kept = record {
  many = length-set vs f w ∙ kept.many;
  none_higher = λ k. by_case k (cases_eq k f);
} where
  by_case : (k : ℕ) → (k ≡ f) ⊎ (k ≡ f → ⊥) → get_or (set vs f w) k 0 ≤ get_or old k 0
  by_case k (inl same) =
      let here : get_or (set vs f w) k 0 ≡ w =
      ap (λ n. get_or (set vs f w) n 0) same ∙ get_or-set_same vs f w 0 from_in in
      let was : get_or vs k 0 ≡ get_or vs f 0 = ap (λ n. get_or vs n 0) same in
      let less = kept.none_higher k in
      omega (arith, here, was, low, less)
  by_case k (inr apart) =
      let here = get_or-set_other vs f k w 0 apart in
      let less = kept.none_higher k in
      omega (arith, here, less)

pub sum_less : (vs : List ℕ) (f w : ℕ) → f < length vs → w < get_or vs f 0 → sum (set vs f w) < sum vs
sum_less vs f w from_in less =
    let same = sum_by-set (λ (x : ℕ). x) vs f w 0 from_in in
    omega (arith, same, less)

-- How many values are near.

abbrev pub near_one_of : ℕ → ℕ
near_one_of x = cond (nat_lt x far) 1 0

near_one : (x : ℕ) → x < far → near_one_of x ≡ 1
near_one x near = grind (arith, nat_tests)

pub far_one : (x : ℕ) → far ≤ x → near_one_of x ≡ 0
far_one x past = grind (arith, nat_tests)

pub count_far : (vs : List ℕ) (f w : ℕ) → f < length vs → w < far → far ≤ get_or vs f 0
    → near_count (set vs f w) ≡ near_count vs + 1
count_far [] f w below near past = absurd (omega arith)
count_far (x ∷ xs) zero w below near past =
    let one = near_one w near in
    let none = far_one x past in
    omega (arith, one, none)
count_far (x ∷ xs) (suc f) w below near past =
    let rest = count_far xs f w (omega (arith, below)) near past in
    omega (arith, rest)

count_near : (vs : List ℕ) (f w : ℕ) → f < length vs → w < far → get_or vs f 0 < far
    → near_count (set vs f w) ≡ near_count vs
count_near [] f w below near less = absurd (omega arith)
count_near (x ∷ xs) zero w below near less =
    let one = near_one w near in
    let other = near_one x less in
    omega (arith, one, other)
count_near (x ∷ xs) (suc f) w below near less =
    let rest = count_near xs f w (omega (arith, below)) near less in
    omega (arith, rest)

few_near : (vs : List ℕ) → near_count vs ≤ length vs
few_near [] = omega arith
few_near (x ∷ xs) =
    let rest = few_near xs in
    elim (cases_lt x far) [
      | inl less ↦ let one = near_one x less in omega (arith, rest, one)
      | inr past ↦ let none = far_one x past in omega (arith, rest, none)
    ]

-- a value that is near is below the number of places
pub near_below : (vs : List ℕ) (k : ℕ) → AreNear vs → k < length vs → get_or vs k 0 < far → get_or vs k 0 < length vs
near_below vs k all below near =
    let less = all k below near in
    let few = few_near vs in
    omega (arith, less, few)

pub near_more : (vs : List ℕ) (f t w cost : ℕ) → f < length vs → t < length vs → w ≡ get_or vs t 0 + cost
    → w < get_or vs f 0 → w < far → cost ≤ 1 → AreNear vs → AreNear (set vs f w)
near_more vs f t w cost from_in to_in is low near small all k below is_near =
    by_case (cases_eq k f) (cases_lt (get_or vs f 0) far) where
      start : get_or vs t 0 < near_count vs
      start = all t to_in (omega (arith, is, near))

      inside : k < length vs
      inside = omega (arith, below, length-set vs f w)

      by_case : (k ≡ f) ⊎ (k ≡ f → ⊥) → (get_or vs f 0 < far) ⊎ (far ≤ get_or vs f 0)
          → get_or (set vs f w) k 0 < near_count (set vs f w)
      by_case (inl same) (inl less) =
          let here : get_or (set vs f w) k 0 ≡ w =
          ap (λ n. get_or (set vs f w) n 0) same ∙ get_or-set_same vs f w 0 from_in in
          let count = count_near vs f w from_in near less in
          let was = all f from_in less in
          omega (arith, here, count, was, low)
      by_case (inl same) (inr past) =
          let here : get_or (set vs f w) k 0 ≡ w =
          ap (λ n. get_or (set vs f w) n 0) same ∙ get_or-set_same vs f w 0 from_in in
          let count = count_far vs f w from_in near past in
          omega (arith, here, count, start, is, small)
      by_case (inr apart) (inl less) =
          let here = get_or-set_other vs f k w 0 apart in
          let count = count_near vs f w from_in near less in
          let was = all k inside (omega (arith, here, is_near)) in
          omega (arith, here, count, was)
      by_case (inr apart) (inr past) =
          let here = get_or-set_other vs f k w 0 apart in
          let count = count_far vs f w from_in near past in
          let was = all k inside (omega (arith, here, is_near)) in
          omega (arith, here, count, was)

-- The links from one number on.

abbrev pub AreLowFrom : List Link → ℕ → List ℕ → ℕ → Type 0
AreLowFrom links cost vs n = (i : ℕ) → n ≤ i → i < length links → IsLow vs cost (link_at links i)

pub low_more : (links : List Link) (cost : ℕ) (vs : List ℕ) (n : ℕ) → 0 < n → AreLowFrom links cost vs n
    → IsLow vs cost (link_at links (n - 1)) → AreLowFrom links cost vs (n - 1)
low_more links cost vs n some all first i low below = by_case (cases_lt i n) where
  by_case : (i < n) ⊎ (n ≤ i) → IsLow vs cost (link_at links i)
  by_case (inr past) = all i past below
  by_case (inl less) =
      let same : n - 1 ≡ i = omega (arith, some, less, low) in
      subst (λ (k : ℕ). IsLow vs cost (link_at links k)) same first
