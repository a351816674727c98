-- What tests of the items of a list say, and what filters keep.
use Rattle.std.proofs.Common.{◌≡◌, ◌⊎◌, inl, inr, refl, sym, ap, ◌∙◌, subst, eqb-true, eq-eqb}
use Rattle.std.proofs.Common.{Bool, true, false, ◌||◌, ◌&&◌, ◌==◌, List, [], ◌∷◌, map, filter, Contains, if◌then◌else◌}
use Rattle.std.specs.List.{list_any}
use Rattle.std.proofs.lemmas.Bool.{cases_Bool, and_parts}
use Rattle.std.proofs.lemmas.List.Folds.{list_any_at}
use Rattle.processor.specs.declared.steps.Step.{Step}
use Rattle.fair_rounds.specs.Classes.{is_step}
use Rattle.fair_rounds.proofs.Walks.{head_in, tail_in, split_in, none_in}

pub apart : (b : Bool) → b ≡ false → b ≡ true → ⊥
apart b fails pass = let off : ⊥ = cc in off

pub same_step : (who t : Step) → is_step who t ≡ true → t ≡ who
same_step who t is =
    let each = and_parts (t.p == who.p) (t.s == who.s) is in
    let p : t.p ≡ who.p = eqb-true t.p who.p each.0 in
    let s : t.s ≡ who.s = eqb-true t.s who.s each.1 in
    λ i. record { p = p i; s = s i }

pub step_same : (who t : Step) → t ≡ who → is_step who t ≡ true
step_same who t same =
    let p : (t.p == who.p) ≡ true = eq-eqb t.p who.p (ap (λ (u : Step). u.p) same) in
    let s : (t.s == who.s) ≡ true = eq-eqb t.s who.s (ap (λ (u : Step). u.s) same) in
    λ i. p i && s i

found_if : {X : Type 0} (test : X → Bool) (x : X) (xs : List X)
    → (list_any test xs ≡ true → (y : X) × Contains xs y × (test y ≡ true)) → (test x ≡ true) ⊎ (test x ≡ false)
    → list_any test (x ∷ xs) ≡ true → (y : X) × Contains (x ∷ xs) y × (test y ≡ true)
found_if test x xs rest (inl pass) holds = (x, head_in x xs, pass)
found_if test x xs rest (inr fails) holds =
    let got = rest (subst (λ (b : Bool). (b || list_any test xs) ≡ true) fails holds) in
    (got.0, tail_in x got.0 xs got.1, got.2)

-- an item that passes
pub any_found : {X : Type 0} (test : X → Bool) (xs : List X) → list_any test xs ≡ true
    → (y : X) × Contains xs y × (test y ≡ true)
any_found test [] holds = let off : ⊥ = cc in absurd off
any_found test (x ∷ xs) holds = found_if test x xs (any_found test xs) (cases_Bool (test x)) holds

pub any_here : {X : Type 0} (test : X → Bool) (xs : List X) (x : X) → Contains xs x → test x ≡ true → list_any test xs ≡ true
any_here test xs x there pass = list_any_at test xs there.0 x there.1 (ap test there.2 ∙ pass)

-- where none passes
pub none_here : {X : Type 0} (test : X → Bool) (xs : List X) (x : X) → list_any test xs ≡ false → Contains xs x
    → test x ≡ false
none_here test xs x none there = elim (cases_Bool (test x)) [
  | inl pass ↦ absurd (apart (list_any test xs) none (any_here test xs x there pass))
  | inr fails ↦ fails
]

-- What a filter keeps.

pub record IsKept {X : Type 0} (test : X → Bool) (xs : List X) (y : X) : Type 0 where
  pub there : Contains xs y
  pub pass : test y ≡ true

module _ {X : Type 0} (test : X → Bool) where
  kept_if : (x : X) (xs : List X) (y : X) → (Contains (filter test xs) y → IsKept test xs y) → (b : Bool) → test x ≡ b
      → Contains (if b then x ∷ filter test xs else filter test xs) y → IsKept test (x ∷ xs) y
  kept_if x xs y rest true is there = elim (split_in x y (filter test xs) there) [
    | inl same ↦ record { there = subst (Contains (x ∷ xs)) same (head_in x xs); pass = ap test (sym same) ∙ is }
    | inr inner ↦ let got = rest inner in record { there = tail_in x y xs got.there; pass = got.pass }
  ]
  kept_if x xs y rest false is there = let got = rest there in record { there = tail_in x y xs got.there; pass = got.pass }

  pub kept_is : (xs : List X) (y : X) → Contains (filter test xs) y → IsKept test xs y
  kept_is [] y there = absurd (none_in y there)
  kept_is (x ∷ xs) y there = kept_if x xs y (kept_is xs y) (test x) refl there

  is_kept_if : (x : X) (xs : List X) (y : X) → test y ≡ true → (Contains xs y → Contains (filter test xs) y) → (b : Bool)
      → test x ≡ b → Contains (x ∷ xs) y → Contains (if b then x ∷ filter test xs else filter test xs) y
  is_kept_if x xs y pass rest true is there = elim (split_in x y xs there) [
    | inl same ↦ subst (Contains (x ∷ filter test xs)) same (head_in x (filter test xs))
    | inr inner ↦ tail_in x y (filter test xs) (rest inner)
  ]
  is_kept_if x xs y pass rest false is there = elim (split_in x y xs there) [
    | inl same ↦ let holds : test x ≡ true = ap test same ∙ pass in let off : ⊥ = cc in absurd off
    | inr inner ↦ rest inner
  ]

  pub is_kept : (xs : List X) (y : X) → test y ≡ true → Contains xs y → Contains (filter test xs) y
  is_kept [] y pass there = absurd (none_in y there)
  is_kept (x ∷ xs) y pass there = is_kept_if x xs y pass (is_kept xs y pass) (test x) refl there

-- What a map makes.

pub mapped : {X Y : Type 0} (f : X → Y) (xs : List X) (x : X) → Contains xs x → Contains (map f xs) (f x)
mapped f [] x there = absurd (none_in x there)
mapped f (z ∷ zs) x there = elim (split_in z x zs there) [
  | inl same ↦ subst (Contains (f z ∷ map f zs)) (ap f same) (head_in (f z) (map f zs))
  | inr inner ↦ tail_in (f z) (f x) (map f zs) (mapped f zs x inner)
]

pub mapped_from : {X Y : Type 0} (f : X → Y) (xs : List X) (y : Y) → Contains (map f xs) y
    → (x : X) × Contains xs x × (f x ≡ y)
mapped_from f [] y there = absurd (none_in y there)
mapped_from f (z ∷ zs) y there = elim (split_in (f z) y (map f zs) there) [
  | inl same ↦ (z, head_in z zs, same)
  | inr inner ↦ let got = mapped_from f zs y inner in (got.0, tail_in z got.0 zs got.1, got.2)
]
