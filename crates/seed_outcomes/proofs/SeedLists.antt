-- The seeds from one place to another, and those after them.
use Rattle.std.proofs.Common.{◌≡◌, ℕ, zero, suc, ◌+◌, ◌-◌, ◌≤◌, refl, sym, ap, ◌∙◌, arith}
use Rattle.std.proofs.Common.{List, [], ◌∷◌, ◌++◌, length}
use Rattle.space_ends.specs.SeedVerdicts.Seeds.{seed_at}
use Rattle.seed_outcomes.specs.SeedLists.{seeds_from, seeds_between}

seeds_length : (first place n : ℕ) → length (seeds_from first place n) ≡ n
seeds_length first place zero = refl
seeds_length first place (suc n) = ap suc (seeds_length first (place + 1) n)

pub between_length : (first begin end : ℕ) → length (seeds_between first begin end) ≡ end - begin
between_length first begin end = seeds_length first begin (end - begin)

seeds_both : (first place m n : ℕ) → seeds_from first place m ++ seeds_from first (place + m) n ≡ seeds_from first place (m + n)
seeds_both first place zero n =
    let e : place + 0 ≡ place = omega arith in
    let z : 0 + n ≡ n = omega arith in
    ap (λ p. seeds_from first p n) e ∙ ap (λ k. seeds_from first place k) (sym z)
seeds_both first place (suc m) n =
    let e : place + suc m ≡ place + 1 + m = omega arith in
    let z : suc m + n ≡ suc (m + n) = omega arith in
    ap (λ p. seed_at first place ∷ (seeds_from first (place + 1) m ++ seeds_from first p n)) e
    ∙ ap (λ (l : List ℕ). seed_at first place ∷ l) (seeds_both first (place + 1) m n)
    ∙ ap (λ k. seeds_from first place k) (sym z)

pub between_both : (first a b c : ℕ) → a ≤ b → b ≤ c
    → seeds_between first a b ++ seeds_between first b c ≡ seeds_between first a c
between_both first a b c low high =
    let e : b ≡ a + (b - a) = omega arith in
    let z : (b - a) + (c - b) ≡ c - a = omega arith in
    ap (λ p. seeds_from first a (b - a) ++ seeds_from first p (c - b)) e ∙ seeds_both first a (b - a) (c - b)
    ∙ ap (λ k. seeds_from first a k) z

pub between_none : (first a : ℕ) → [] ≡ seeds_between first a a
between_none first a =
    let z : 0 ≡ a - a = omega arith in
    ap (λ k. seeds_from first a k) z

pub between_one : (first a : ℕ) → seed_at first a ∷ [] ≡ seeds_between first a (a + 1)
between_one first a =
    let z : 1 ≡ a + 1 - a = omega arith in
    ap (λ k. seeds_from first a k) z
