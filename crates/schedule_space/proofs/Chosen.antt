-- What a filter of steps keeps.
use Rattle.std.proofs.Common.{◌||◌}
use Rattle.std.proofs.Common.{◌≡◌, zero, suc, ◌⊎◌, inl, inr, refl, sym, ap, ◌∙◌, subst, arith, eq-eqb, eqb-true}
use Rattle.std.proofs.Common.{Bool, true, false, not, ◌&&◌, ◌==◌, List, [], ◌∷◌, filter, if◌then◌else◌}
use Rattle.std.specs.List.{Contains}
use Rattle.std.proofs.lemmas.Bool.{cases_Bool, and_parts}
use Rattle.std.proofs.lemmas.List.Elements.{Contains-get_or}
use Rattle.std.proofs.lemmas.List.Folds.{list_any_at}
use Rattle.processor.specs.declared.steps.Step.{Step}
use Rattle.schedule_space.specs.Spaces.{AreAllDifferent}
use Rattle.schedule_space.specs.Chosen.{is_step, is_in, is_out, steps_in, steps_out}

head_in : (x : Step) (xs : List Step) → Contains (x ∷ xs) x
head_in x xs = (0, omega arith, refl)

tail_in : (x y : Step) (xs : List Step) → Contains xs y → Contains (x ∷ xs) y
tail_in x y xs there = (suc there.0, omega (arith, there.1), there.2)

split_in : (x y : Step) (xs : List Step) → Contains (x ∷ xs) y → (x ≡ y) ⊎ Contains xs y
split_in x y xs (zero, within, at) = inl at
split_in x y xs (suc k, within, at) = inr (k, omega (arith, within), at)

none_in : (x : Step) → Contains [] x → ⊥
none_in x there = let below = there.1 in omega (arith, below)

-- lists without a repetition
different_cons : (x : Step) (xs : List Step) → AreAllDifferent xs → (Contains xs x → ⊥) → AreAllDifferent (x ∷ xs)
different_cons x xs all off zero (suc k) d less below same =
    off (subst (Contains xs) (sym same) (Contains-get_or xs k d (omega (arith, below))))
different_cons x xs all off (suc j) (suc k) d less below same =
    all j k d (omega (arith, less)) (omega (arith, below)) same
different_cons x xs all off zero zero d less below same = omega (arith, less)
different_cons x xs all off (suc j) zero d less below same = omega (arith, less)

different_tail : (x : Step) (xs : List Step) → AreAllDifferent (x ∷ xs) → AreAllDifferent xs
different_tail x xs all j k d less below same =
    all (suc j) (suc k) d (omega (arith, less)) (omega (arith, below)) same

different_head : (x : Step) (xs : List Step) → AreAllDifferent (x ∷ xs) → Contains xs x → ⊥
different_head x xs all there = all 0 (suc there.0) x (omega arith) (omega (arith, there.1)) (sym there.2)

module _ (test : Step → Bool) where
  abbrev Kept : List Step → Step → Type 0
  Kept xs y = Contains xs y × (test y ≡ true)

  kept_if : (x : Step) (xs : List Step) (y : Step) → (Contains (filter test xs) y → Kept xs y) → (b : Bool) → test x ≡ b
      → Contains (if b then x ∷ filter test xs else filter test xs) y → Kept (x ∷ xs) y
  kept_if x xs y rest true is there = elim (split_in x y (filter test xs) there) [
    | inl same ↦ (subst (Contains (x ∷ xs)) same (head_in x xs), ap test (sym same) ∙ is)
    | inr inner ↦ let got = rest inner in (tail_in x y xs got.0, got.1)
  ]
  kept_if x xs y rest false is there = let got = rest there in (tail_in x y xs got.0, got.1)

  pub kept_is : (xs : List Step) (y : Step) → Contains (filter test xs) y → Kept xs y
  kept_is [] y there = absurd (none_in y there)
  kept_is (x ∷ xs) y there = kept_if x xs y (kept_is xs y) (test x) refl there

  is_kept_if : (x : Step) (xs : List Step) (y : Step) → test y ≡ true → (Contains xs y → Contains (filter test xs) y)
      → (b : Bool) → test x ≡ b → Contains (x ∷ xs) y
      → Contains (if b then x ∷ filter test xs else filter test xs) y
  is_kept_if x xs y pass rest true is there = elim (split_in x y xs there) [
    | inl same ↦ subst (Contains (x ∷ filter test xs)) same (head_in x (filter test xs))
    | inr inner ↦ tail_in x y (filter test xs) (rest inner)
  ]
  is_kept_if x xs y pass rest false is there = elim (split_in x y xs there) [
    | inl same ↦ let holds : test x ≡ true = ap test same ∙ pass in let off : ⊥ = cc in absurd off
    | inr inner ↦ rest inner
  ]

  pub is_kept : (xs : List Step) (y : Step) → test y ≡ true → Contains xs y → Contains (filter test xs) y
  is_kept [] y pass there = absurd (none_in y there)
  is_kept (x ∷ xs) y pass there = is_kept_if x xs y pass (is_kept xs y pass) (test x) refl there

  different_if : (x : Step) (xs : List Step) → AreAllDifferent (x ∷ xs) → AreAllDifferent (filter test xs) → (b : Bool)
      → AreAllDifferent (if b then x ∷ filter test xs else filter test xs)
  different_if x xs all rest true =
      different_cons x (filter test xs) rest (λ there. different_head x xs all (kept_is xs x there).0)
  different_if x xs all rest false = rest

  pub different_kept : (xs : List Step) → AreAllDifferent xs → AreAllDifferent (filter test xs)
  different_kept [] all = all
  different_kept (x ∷ xs) all = different_if x xs all (different_kept xs (different_tail x xs all)) (test x)

is_same : (t : Step) → is_step t t ≡ true
is_same t =
    let p : (t.p == t.p) ≡ true = eq-eqb t.p t.p refl in
    let s : (t.s == t.s) ≡ true = eq-eqb t.s t.s refl in
    λ i. p i && s i

-- a step of the set is found in it
pub found_in : (set : List Step) (t : Step) → Contains set t → is_in set t ≡ true
found_in set t there = list_any_at (is_step t) set there.0 t there.1 (ap (is_step t) there.2 ∙ is_same t)

-- what is in is not out
pub not_out : (set : List Step) (t : Step) → is_in set t ≡ true → is_out set t ≡ true → ⊥
not_out set t one other = cc

-- each of these steps is in, or out
pub in_or_out : (set steps : List Step) (t : Step) → Contains steps t
    → Contains (steps_in set steps) t ⊎ Contains (steps_out set steps) t
in_or_out set steps t there = elim (cases_Bool (is_in set t)) [
  | inl is ↦ inl (is_kept (is_in set) steps t is there)
  | inr not_so ↦ inr (is_kept (is_out set) steps t (ap not not_so) there)
]

-- none is both
pub out_not_in : (set steps : List Step) (t : Step) → Contains (steps_out set steps) t
    → Contains (steps_in set steps) t → ⊥
out_not_in set steps t out there =
    not_out set t (kept_is (is_in set) steps t there).1 (kept_is (is_out set) steps t out).1

-- what is found in the set is one of it
same_if : (t u : Step) → is_step t u ≡ true → u ≡ t
same_if t u is =
    let each = and_parts (u.p == t.p) (u.s == t.s) is in
    let p : u.p ≡ t.p = eqb-true u.p t.p each.0 in
    let s : u.s ≡ t.s = eqb-true u.s t.s each.1 in
    λ i. record { p = p i; s = s i }

in_if : (t u : Step) (us : List Step) → (is_in us t ≡ true → Contains us t) → (b : Bool) → is_step t u ≡ b
    → (b || is_in us t) ≡ true → Contains (u ∷ us) t
in_if t u us rest true is found = subst (Contains (u ∷ us)) (same_if t u is) (head_in u us)
in_if t u us rest false is found = tail_in u t us (rest found)

pub in_set : (set : List Step) (t : Step) → is_in set t ≡ true → Contains set t
in_set [] t found = let off : ⊥ = cc in absurd off
in_set (u ∷ us) t found = in_if t u us (in_set us t) (is_step t u) refl found
