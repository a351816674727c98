-- Units of UTF-16 before the places of a line.
use Rattle.std.proofs.Common.{◌≡◌, ◌≤◌, ◌<◌, ◌+◌, ℕ, zero, suc, List, [], ◌∷◌, length, take, get_or, arith, ◌⊎◌, inl, inr}
use Rattle.std.proofs.lemmas.List.Sums.{sum_by-cons, sum_by_more}
use Rattle.std.proofs.lemmas.Bool.{cases_lt}
use Rattle.editor_texts.specs.Positions.{units_of, units_before}

-- a later place has no fewer units before it
pub more_before : (line : List ℕ) (j k : ℕ) → j ≤ k → units_before line j ≤ units_before line k
more_before line zero k le = omega arith
more_before [] (suc j) k le = omega arith
more_before (b ∷ bs) (suc j) zero le = absurd (omega (arith, le))
more_before (b ∷ bs) (suc j) (suc k) le =
    omega (
      arith,
      sum_by-cons units_of b (take j bs),
      sum_by-cons units_of b (take k bs),
      more_before bs j k (omega (arith, le)),
    )

-- the units before the next place
pub next_before : (line : List ℕ) (k : ℕ) → k < length line
    → units_before line (k + 1) ≡ units_before line k + units_of (get_or line k 0)
next_before line k in_range = sum_by_more units_of line k 0 in_range

-- no place has so few units before it that stands behind a character which is too many
pub none_after : (line : List ℕ) (index most k : ℕ) → index < length line
    → most < units_before line index + units_of (get_or line index 0) → units_before line k ≤ most → k ≤ index
none_after line index most k in_range over few = by (cases_lt index k)
  where
    by : (index < k) ⊎ (k ≤ index) → k ≤ index
    by (inr far) = far
    by (inl behind) =
        absurd (omega (
          arith,
          behind,
          over,
          few,
          next_before line index in_range,
          more_before line (index + 1) k (omega (arith, behind)),
        ))

-- the last place with so many units before it, where a character begins behind as many
pub agrees : (line : List ℕ) (place most k : ℕ) → units_before line place ≤ most
    → ((i : ℕ) → i ≤ length line → units_before line i ≤ most → i ≤ place)
    → k < length line → 0 < units_of (get_or line k 0) → units_before line k ≡ most → place ≡ k
agrees line place most k few last in_range begins same = by (cases_lt k place)
  where
    by : (k < place) ⊎ (place ≤ k) → place ≡ k
    by (inr near) = omega (arith, near, last k (omega (arith, in_range)) (omega (arith, same)))
    by (inl behind) =
        absurd (omega (
          arith,
          behind,
          begins,
          same,
          few,
          next_before line k in_range,
          more_before line (k + 1) place (omega (arith, behind)),
        ))
