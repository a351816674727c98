-- The runs of things: the first one and those behind it, what they stand for, and that they are as long as they can
-- be.
use Rattle.std.proofs.Common.{◌≡◌, ℕ, suc, ◌+◌, ◌<◌, ◌≤◌, Bool, true, false, cond, List, [], ◌∷◌, ◌++◌, length}
use Rattle.std.proofs.Common.{drop, replicate, Some, refl, sym, ◌∙◌, ap, subst, arith}
use Rattle.std.specs.Prelude.{◌≢◌}
use Rattle.std.specs.List.{flat_map, slice_get, All, AllByRecursion}
use Rattle.std.proofs.lemmas.Bool.{cond-true, cond-false, false≢true}
use Rattle.std.proofs.lemmas.List.Elements.{All-head, All-tail}
use Rattle.text_parts.specs.Runs.{Run, before_runs, runs_of, run_length, run_things, NeighboursDiffer}

-- a test that holds of equal things and of no others
pub record IsEquality (T : Type 0) (same : T → T → Bool) : Type 0 where
  pub is : (x y : T) → same x y ≡ true → x ≡ y
  pub self : (x : T) → same x x ≡ true

abbrev run : {T : Type 0} → T → ℕ → Run T
run x n = record { thing = x; times = n }

-- a run of so many things at most, and at least one, which have a property
abbrev pub IsRunOf : {T : Type 0} → (T → Type 0) → ℕ → Run T → Type 0
IsRunOf P n r = (1 ≤ r.times) × (r.times ≤ n) × P r.thing

module _ {T : Type 0} (same : T → T → Bool) (equality : IsEquality T same) where
  -- the run of a thing before others
  abbrev Front : T → List T → Type 0
  Front x xs =
      before_runs same x (runs_of same xs)
      ≡ run x (1 + run_length same x xs) ∷ runs_of same (drop (run_length same x xs) xs)

  -- a thing before a run of the same, and before another
  front-cons : (x y : T) (ys : List T) (b : Bool) → same y x ≡ b → Front y ys → Front x (y ∷ ys)
  unfolding runs_of
  front-cons x y ys true e front =
      let equal : y ≡ x = equality.is y x e in
      let k : 1 + run_length same y ys + 1 ≡ 1 + (1 + run_length same x ys) =
      omega (arith, ap (λ v. run_length same v ys) equal) in
      let one_more : 1 + run_length same x ys ≡ suc (run_length same x ys) = omega arith in
      ap (before_runs same x) front
      ∙ cond-true _ _ _ e
      ∙ ap (λ n. run x n ∷ runs_of same (drop (run_length same y ys) ys)) k
      ∙ ap (λ v. run x (1 + (1 + run_length same x ys)) ∷ runs_of same (drop (run_length same v ys) ys)) equal
      ∙ ap (λ n. run x (1 + (1 + run_length same x ys)) ∷ runs_of same (drop n (y ∷ ys))) (sym one_more)
      ∙ ap (λ n. run x (1 + n) ∷ runs_of same (drop n (y ∷ ys))) (sym (cond-true _ _ _ e))
  front-cons x y ys false e front =
      ap (before_runs same x) front
      ∙ cond-false _ _ _ e
      ∙ ap (λ rs. run x 1 ∷ rs) (sym front)
      ∙ ap (λ n. run x (1 + n) ∷ runs_of same (drop n (y ∷ ys))) (sym (cond-false _ _ _ e))

  front : (x : T) (xs : List T) → Front x xs
  unfolding runs_of
  front x [] = refl
  front x (y ∷ ys) = front-cons x y ys (same y x) refl (front y ys)

  -- the same with the thing itself
  run_length-whole : (x : T) (xs : List T) → run_length same x (x ∷ xs) ≡ 1 + run_length same x xs
  run_length-whole x xs = cond-true _ _ _ (equality.self x)

  first-cons : (x : T) (xs : List T)
      → runs_of same (x ∷ xs)
      ≡ run x (run_length same x (x ∷ xs)) ∷ runs_of same (drop (run_length same x (x ∷ xs)) (x ∷ xs))
  unfolding runs_of
  first-cons x xs =
      let one_more : 1 + run_length same x xs ≡ suc (run_length same x xs) = omega arith in
      front x xs ∙ ap (λ n. run x (1 + run_length same x xs) ∷ runs_of same (drop n (x ∷ xs))) (sym one_more)
      ∙ ap (λ n. run x n ∷ runs_of same (drop n (x ∷ xs))) (sym (run_length-whole x xs))

  at_first : (x y : T) (xs : List T) → Some y ≡ Some x → (P : T → List T → Type 0)
      → ((v : T) → P v (v ∷ xs)) → P x (y ∷ xs)
  at_first x y xs e P all = let equal : y ≡ x = cc in subst (λ v. P v (y ∷ xs)) equal (all y)

  -- the first run is as long as the first thing comes in front
  pub first_run : (x : T) (xs : List T) → slice_get xs 0 ≡ Some x
      → runs_of same xs ≡ run x (run_length same x xs) ∷ runs_of same (drop (run_length same x xs) xs)
  first_run x [] e = cc
  first_run x (y ∷ ys) e =
      at_first x y ys e (λ v vs. runs_of same vs
      ≡ run v (run_length same v vs) ∷ runs_of same (drop (run_length same v vs) vs)) (λ v. first-cons v ys)

  pub some_first : (x : T) (xs : List T) → slice_get xs 0 ≡ Some x → (0 < run_length same x xs) × (0 < length xs)
  some_first x [] e = cc
  some_first x (y ∷ ys) e =
      at_first x y ys e (λ v vs. (0 < run_length same v vs) × (0 < length vs))
      (λ v. (omega (arith, run_length-whole v ys), omega arith))

  -- A thing before runs makes the first longer, or is a run of its own.

  by_test : (b : Bool) (xs ys : List (Run T)) (P : List (Run T) → Type 0) → (b ≡ true → P xs) → (b ≡ false → P ys)
      → P (cond b xs ys)
  by_test true xs ys P p q = p refl
  by_test false xs ys P p q = q refl

  by_thing : (x : T) (r : Run T) (rs : List (Run T)) (P : List (Run T) → Type 0)
      → (same r.thing x ≡ true → P (run x (r.times + 1) ∷ rs)) → (same r.thing x ≡ false → P (run x 1 ∷ r ∷ rs))
      → P (before_runs same x (r ∷ rs))
  by_thing x r rs P p q = by_test (same r.thing x) (run x (r.times + 1) ∷ rs) (run x 1 ∷ r ∷ rs) P p q

  joined-things : (x : T) (rs : List (Run T))
      → flat_map run_things (before_runs same x rs) ≡ x ∷ flat_map run_things rs
  joined-things x [] = refl
  joined-things x (r ∷ rs) =
      let more : r.times + 1 ≡ suc r.times = omega arith in
      by_thing x r rs (λ ss. flat_map run_things ss ≡ x ∷ flat_map run_things (r ∷ rs))
      (λ e. ap (λ n. replicate n x ++ flat_map run_things rs) more
      ∙ ap (λ v. x ∷ (replicate r.times v ++ flat_map run_things rs)) (sym (equality.is r.thing x e)))
      (λ e. refl)

  -- runs, one after another, are the things
  pub runs_whole : (xs : List T) → flat_map run_things (runs_of same xs) ≡ xs
  unfolding runs_of
  runs_whole [] = refl
  runs_whole (x ∷ xs) = joined-things x (runs_of same xs) ∙ ap (λ ys. x ∷ ys) (runs_whole xs)

  -- runs of so many things, of which each has a property

  weaker : (P : T → Type 0) (n : ℕ) (rs : List (Run T)) → AllByRecursion (IsRunOf P n) rs
      → AllByRecursion (IsRunOf P (suc n)) rs
  weaker P n [] h = tt
  weaker P n (r ∷ rs) h = ((h.0.0, omega (arith, h.0.1), h.0.2), weaker P n rs h.1)

  joined-each : (P : T → Type 0) (n : ℕ) (x : T) (rs : List (Run T)) → P x → AllByRecursion (IsRunOf P n) rs
      → AllByRecursion (IsRunOf P (suc n)) (before_runs same x rs)
  joined-each P n x [] p h = ((omega arith, omega arith, p), tt)
  joined-each P n x (r ∷ rs) p h =
      by_thing x r rs (AllByRecursion (IsRunOf P (suc n)))
      (λ e. ((omega arith, omega (arith, h.0.1), p), weaker P n rs h.1))
      (λ e. ((omega arith, omega arith, p), weaker P n (r ∷ rs) h))

  pub each_run : (P : T → Type 0) (xs : List T) → All P xs → AllByRecursion (IsRunOf P (length xs)) (runs_of same xs)
  unfolding runs_of
  each_run P [] all = tt
  each_run P (x ∷ xs) all =
      joined-each P (length xs) x (runs_of same xs) (All-head P x xs all) (each_run P xs (All-tail P x xs all))

  some-each : (P : T → Type 0) (n : ℕ) (rs : List (Run T)) → AllByRecursion (IsRunOf P n) rs
      → AllByRecursion (λ (r : Run T). 1 ≤ r.times) rs
  some-each P n [] h = tt
  some-each P n (r ∷ rs) h = (h.0.0, some-each P n rs h.1)

  -- no run is empty
  pub some_run : (xs : List T) → AllByRecursion (λ (r : Run T). 1 ≤ r.times) (runs_of same xs)
  some_run xs =
      some-each (λ x. Unit {0}) (length xs) (runs_of same xs) (each_run (λ x. Unit {0}) xs (λ k d h. tt))

  -- runs that follow each other are of different things

  differ : (x y : T) → same x y ≡ false → x ≢ y
  differ x y e is = false≢true (sym e ∙ ap (λ v. same v y) is ∙ equality.self y)

  joined-differ : (x : T) (rs : List (Run T)) → NeighboursDiffer rs → NeighboursDiffer (before_runs same x rs)
  joined-differ x [] h = tt
  joined-differ x (r ∷ []) h =
      by_thing x r [] NeighboursDiffer (λ e. tt) (λ e. (λ is. differ r.thing x e (sym is), tt))
  joined-differ x (r ∷ s ∷ rs) h =
      by_thing x r (s ∷ rs) NeighboursDiffer
      (λ e. ((λ is. h.0 (equality.is r.thing x e ∙ is)), h.1))
      (λ e. ((λ is. differ r.thing x e (sym is)), h))

  pub neighbours_differ : (xs : List T) → NeighboursDiffer (runs_of same xs)
  unfolding runs_of
  neighbours_differ [] = tt
  neighbours_differ (x ∷ xs) = joined-differ x (runs_of same xs) (neighbours_differ xs)
