-- The last step before another.
use Rattle.std.proofs.Common.{◌≡◌, ℕ, zero, suc, ◌-◌, ◌<◌, ◌≤◌, Bool, true, false, cond, List, length, get_or}
use Rattle.std.proofs.Common.{Some, sym, ap, ◌∙◌, subst, arith}
use Rattle.std.specs.List.{slice_get}
use Rattle.std.proofs.lemmas.Option.{slice_get-get_or}
use Rattle.run_findings.specs.Places.{passes, last_before, last_below}
use Rattle.run_findings.specs.declared.actions.Action.{Action}

-- by whether the step in place m passes
last-by : (test : Action → Bool) (ds : List Action) (m : ℕ) (d : Action) (t : Bool) → slice_get ds m ≡ Some d
    → test d ≡ t → last_before test ds (suc m) ≡ cond t (Some m) (last_before test ds m)
last-by test ds m d t stands is = ap (λ b. cond b (Some m) (last_before test ds m)) (ap (passes test) stands ∙ is)

last-failed : (test : Action → Bool) (ds : List Action) (m : ℕ) (d : Action) → m < length ds
    → test (get_or ds m d) ≡ false → last_before test ds m ≡ last_before test ds (suc m)
last-failed test ds m d within fails =
    sym (last-by test ds m (get_or ds m d) false (slice_get-get_or ds m d within) fails)

last-passed : (test : Action → Bool) (ds : List Action) (m : ℕ) (d : Action) → m < length ds
    → test (get_or ds m d) ≡ true → last_before test ds (suc m) ≡ Some m
last-passed test ds m d within passed =
    last-by test ds m (get_or ds m d) true (slice_get-get_or ds m d within) passed

-- the step before n does not pass
pub last-before : (test : Action → Bool) (ds : List Action) (n : ℕ) (d : Action) → 0 < n → n ≤ length ds
    → test (get_or ds (n - 1) d) ≡ false → last_before test ds (n - 1) ≡ last_before test ds n
last-before test ds zero d some within fails = absurd (omega arith)
last-before test ds (suc m) d some within fails =
    let same : m ≡ suc m - 1 = omega arith in
    let P : ℕ → Type 0 =
    λ k. test (get_or ds k d) ≡ false → last_before test ds k ≡ last_before test ds (suc m) in
    subst P same (last-failed test ds m d (omega arith)) fails

-- the step before n passes
pub last-is : (test : Action → Bool) (ds : List Action) (n : ℕ) (d : Action) → 0 < n → n ≤ length ds
    → test (get_or ds (n - 1) d) ≡ true → last_before test ds n ≡ Some (n - 1)
last-is test ds zero d some within passed = absurd (omega arith)
last-is test ds (suc m) d some within passed =
    let same : m ≡ suc m - 1 = omega arith in
    let P : ℕ → Type 0 = λ k. test (get_or ds k d) ≡ true → last_before test ds (suc m) ≡ Some k in
    subst P same (last-passed test ds m d (omega arith)) passed

-- The same of numbers.

-- n - 1 does not pass
pub below-failed : (test : ℕ → Bool) (n : ℕ) → 0 < n → test (n - 1) ≡ false
    → last_below test (n - 1) ≡ last_below test n
below-failed test zero some fails = absurd (omega arith)
below-failed test (suc m) some fails =
    let same : m ≡ suc m - 1 = omega arith in
    let P : ℕ → Type 0 = λ k. test k ≡ false → last_below test k ≡ last_below test (suc m) in
    subst P same (λ f. sym (ap (λ b. cond b (Some m) (last_below test m)) f)) fails

-- n - 1 passes
pub below-is : (test : ℕ → Bool) (n : ℕ) → 0 < n → test (n - 1) ≡ true → last_below test n ≡ Some (n - 1)
below-is test zero some passed = absurd (omega arith)
below-is test (suc m) some passed =
    let same : m ≡ suc m - 1 = omega arith in
    let P : ℕ → Type 0 = λ k. test k ≡ true → last_below test (suc m) ≡ Some k in
    subst P same (λ f. ap (λ b. cond b (Some m) (last_below test m)) f) passed

-- The last step is below.

older : (test : Action → Bool) (ds : List Action) (m u : ℕ) (t : Bool) → ((v : ℕ) → last_before test ds m ≡ Some v → v < m)
    → cond t (Some m) (last_before test ds m) ≡ Some u → u < suc m
older test ds m u true below e = let same : m ≡ u = cc in omega arith
older test ds m u false below e = let low = below u e in omega arith

pub last-below : (test : Action → Bool) (ds : List Action) (n u : ℕ) → last_before test ds n ≡ Some u → u < n
last-below test ds zero u e = absurd cc
last-below test ds (suc m) u e =
    older test ds m u (passes test (slice_get ds m)) (λ v. last-below test ds m v) e
