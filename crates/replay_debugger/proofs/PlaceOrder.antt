-- Places in their order: two compare as equal exactly where both their numbers are equal.
use Rattle.std.proofs.Common.{◌≡◌, ℕ, ◌==◌, ◌&&◌, ◌||◌, Bool, true, false, cond, refl, sym, ◌∙◌, arith, List, [], ◌∷◌}
use Rattle.std.proofs.lemmas.Bool.Decides.{nat_tests}
use Rattle.std.specs.List.{list_any}
use Rattle.std.specs.Ordering.{nat_cmp, is_eq, ordering_then}
use Rattle.std.specs.declared.cmp.Ordering.{Ordering}
use Rattle.std.specs.declared.cmp.Ordering.TheVariants.{Less, Equal, Greater}
use Rattle.std.specs.Cmp.{unsigned_tied}
use Rattle.replay_debugger.specs.StopFinders.{has_place}

-- the order of places
abbrev pub place_cmp : ℕ × ℕ → ℕ × ℕ → Ordering
place_cmp x y = ordering_then (nat_cmp x.0 y.0) (nat_cmp x.1 y.1)

both_equal : (a b : Ordering) → is_eq (ordering_then a b) ≡ (is_eq a && is_eq b)
both_equal Less b = refl
both_equal Equal b = refl
both_equal Greater b = refl

pub same_place : (x y : ℕ × ℕ) → is_eq (place_cmp x y) ≡ ((x.0 == y.0) && (x.1 == y.1))
same_place x y =
    both_equal (nat_cmp x.0 y.0) (nat_cmp x.1 y.1)
    ∙ (λ i. unsigned_tied x.0 y.0 i && unsigned_tied x.1 y.1 i)

flips : (a b : ℕ) → (a == b) ≡ (b == a)
flips a b = grind (arith, nat_tests)

pub has_place_is : (places : List (ℕ × ℕ)) (p pc : ℕ)
    → list_any (λ place. is_eq (place_cmp (p, pc) place)) places ≡ has_place places p pc
has_place_is [] p pc = refl
has_place_is (place ∷ rest) p pc = λ i. same_place (p, pc) place i || has_place_is rest p pc i

or_cond : (a b : Bool) → cond a true b ≡ (a || b)
or_cond true b = refl
or_cond false b = refl

-- the places with one more
pub place_added : (old new : List (ℕ × ℕ)) (q at p pc : ℕ)
    → list_any (λ place. is_eq (place_cmp (p, pc) place)) new
    ≡ cond (is_eq (place_cmp (q, at) (p, pc))) true (list_any (λ place. is_eq (place_cmp (p, pc) place)) old)
    → has_place new p pc ≡ (((p == q) && (pc == at)) || has_place old p pc)
place_added old new q at p pc added =
    sym (has_place_is new p pc) ∙ added
    ∙ or_cond (is_eq (place_cmp (q, at) (p, pc))) (list_any (λ place. is_eq (place_cmp (p, pc) place)) old)
    ∙ (λ i. same_place (q, at) (p, pc) i || has_place_is old p pc i)
    ∙ (λ i. (flips q p i && flips at pc i) || has_place old p pc)
