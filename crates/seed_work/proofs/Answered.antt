-- What was found of the seeds from one place to another, by the list of what was answered for them.
use Rattle.std.proofs.Common.{◌≡◌, ℕ, zero, suc, ◌+◌, refl, sym, ap, ◌∙◌, subst, arith}
use Rattle.std.proofs.Common.{List, [], ◌∷◌, length, map, Option, Some, Result, Ok}
use Rattle.std.specs.Prelude.{IfOk, slice_get}
use Rattle.std.specs.List.{AllZip, range_with_len}
use Rattle.std.proofs.lemmas.Option.{same_Some}
use Rattle.machine.specs.declared.load_fault.LoadFault.{LoadFault}
use Rattle.seed_work.specs.declared.missed_work.MissedWork.{MissedWork}

abbrev Found : Type 0
Found = Option MissedWork

-- what is answered at a place, where nothing goes wrong
abbrev answers : List Found → List (Result Found LoadFault)
answers es = map Ok es

abbrev AreAnswers : (ℕ → Found → Type 0) → List ℕ → List Found → Type 0
AreAnswers P places es = AllZip (λ (i : ℕ) (r : Result Found LoadFault). IfOk r (P i)) places (answers es)

answered_at : (P : ℕ → Found → Type 0) (a n : ℕ) (es : List Found)
    → AreAnswers P (range_with_len a n) es → (k : ℕ) (e : Found) → slice_get es k ≡ Some e → P (a + k) e
answered_at P a zero [] all k e there = absurd (let h : ⊥ = cc in h)
answered_at P a zero (x ∷ es) all k e there = absurd all
answered_at P a (suc n) [] all k e there = absurd all
answered_at P a (suc n) (x ∷ es) all zero e there =
    let place : a ≡ a + 0 = omega arith in
    subst (λ i. P i e) place (subst (λ y. P a y) (same_Some x e there) all.0)
answered_at P a (suc n) (x ∷ es) all (suc k) e there =
    let place : a + 1 + k ≡ a + suc k = omega arith in
    subst (λ i. P i e) place (answered_at P (a + 1) n es all.1 k e there)

answered_all : (P : ℕ → Found → Type 0) (a n : ℕ) (es : List Found) → AreAnswers P (range_with_len a n) es
    → length es ≡ n
answered_all P a zero [] all = refl
answered_all P a zero (x ∷ es) all = absurd all
answered_all P a (suc n) [] all = absurd all
answered_all P a (suc n) (x ∷ es) all = let rest = answered_all P (a + 1) n es all.1 in omega (arith, rest)

-- What a chain over the places from one on has answered.
pub all_answered : (P : ℕ → Found → Type 0) (a n : ℕ) (places : List ℕ) (results : List (Result Found LoadFault))
    (found es : List Found) → AllZip (λ (i : ℕ) (r : Result Found LoadFault). IfOk r (P i)) places results
    → places ≡ range_with_len a n → results ≡ answers found → es ≡ found
    → ((k : ℕ) (e : Found) → slice_get es k ≡ Some e → P (a + k) e) × (length es ≡ n)
all_answered P a n places results found es all range ok is =
    let R : ℕ → Result Found LoadFault → Type 0 = λ i r. IfOk r (P i) in
    let known : AreAnswers P (range_with_len a n) found =
    subst (λ (l : List ℕ). AllZip R l (answers found)) range
    (subst (λ (l : List (Result Found LoadFault)). AllZip R places l) ok all) in (
      λ k e there.
          let among : slice_get found k ≡ Some e = sym (ap (λ (l : List Found). slice_get l k) is) ∙ there in
          answered_at P a n found known k e among,
      ap (λ (l : List Found). length l) is ∙ answered_all P a n found known,
    )
