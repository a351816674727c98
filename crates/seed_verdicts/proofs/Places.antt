-- The place of the first that fails: none where each passes.
use Rattle.std.proofs.Common.{◌≡◌, ℕ, suc, ◌+◌, ◌≤◌, cond, refl, arith, ⊎_elim, lt-ltb, le-ltb}
use Rattle.std.proofs.Common.{List, [], ◌∷◌, length, Some, None, ◌&&◌}
use Rattle.std.specs.Prelude.{Bool, true, false, not}
use Rattle.std.specs.List.{list_all, position_or_len, position}
use Rattle.std.proofs.lemmas.Bool.{cases_lt}

module _ {X : Type 0} (p : X → Bool) where
  all_pass : (xs : List X) → length xs ≤ position_or_len (λ x. not (p x)) xs → list_all p xs ≡ true
  all_pass [] past = refl
  all_pass (x ∷ xs) past = by (all_pass xs) (p x) past where
    by : (length xs ≤ position_or_len (λ y. not (p y)) xs → list_all p xs ≡ true) → (b : Bool)
        → suc (length xs) ≤ cond (not (not b)) (1 + position_or_len (λ y. not (p y)) xs) 0
        → (b && list_all p xs) ≡ true
    by rest true past = rest (omega (arith, past))
    by rest false past = absurd (let h : ⊥ = omega (arith, past) in h)

  none_fails : (xs : List X) → list_all p xs ≡ true → length xs ≤ position_or_len (λ x. not (p x)) xs
  none_fails [] all = omega arith
  none_fails (x ∷ xs) all = by (none_fails xs) (p x) all where
    by : (list_all p xs ≡ true → length xs ≤ position_or_len (λ y. not (p y)) xs) → (b : Bool)
        → (b && list_all p xs) ≡ true
        → suc (length xs) ≤ cond (not (not b)) (1 + position_or_len (λ y. not (p y)) xs) 0
    by rest true all = let more = rest all in omega (arith, more)
    by rest false all = absurd (let h : ⊥ = cc in h)

  pub passed : (xs : List X) → None ≡ position (λ x. not (p x)) xs → list_all p xs ≡ true
  passed xs none = ⊎_elim
      (λ h. let e = rw (lt-ltb (position_or_len (λ x. not (p x)) xs) (length xs) h) at none in cc)
      (λ h. all_pass xs h)
      (cases_lt (position_or_len (λ x. not (p x)) xs) (length xs))

  pub fails_none : (xs : List X) (k : ℕ) → list_all p xs ≡ true → Some k ≡ position (λ x. not (p x)) xs → ⊥
  fails_none xs k all some =
      let e = rw (le-ltb (position_or_len (λ x. not (p x)) xs) (length xs) (none_fails xs all)) at some in cc
