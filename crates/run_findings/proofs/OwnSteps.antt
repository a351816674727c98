-- The steps of one stream.
use Rattle.std.proofs.Common.{◌≡◌, ℕ, zero, suc, ◌+◌, ◌-◌, ◌<◌, ◌≤◌, ◌==◌, Bool, true, false, cond, List, [], ◌∷◌, length}
use Rattle.std.proofs.Common.{get_or, take, drop, Option, Some, None, refl, sym, ap, ◌∙◌, subst, arith, ◌&&◌, ⊎_elim, length-drop}
use Rattle.std.specs.List.{slice_get}
use Rattle.std.specs.Option.{IfSome}
use Rattle.std.proofs.lemmas.Bool.{cases_lt, eqb-true, eq-eqb, false≢true, and_from, false_from_ne_true}
use Rattle.std.proofs.lemmas.List.{get_or-drop}
use Rattle.std.proofs.lemmas.Option.{slice_get-get_or, slice_get_within}
use Rattle.processor.specs.declared.steps.Step.{Step}
use Rattle.run_findings.specs.Actions.{is_by}
use Rattle.run_findings.specs.Places.{passes, last_before}
use Rattle.run_findings.specs.Links.{with_step, latest_of, latest_in}
use Rattle.run_findings.specs.Marks.{marks_past, marks_through, marks_of_read, marks_before, marks_after_deed, no_marks}
use Rattle.run_findings.specs.Own.{number_of, IsInRange, has_number, own_at, own_of}
use Rattle.run_findings.specs.declared.actions.Action.{Action}
use Rattle.run_findings.specs.declared.links.Latest.{Latest}
use Rattle.run_findings.specs.declared.marks.Marks.{Marks}
use Rattle.run_findings.proofs.Before.{last-below}
use Rattle.run_findings.proofs.Chains.{last-passes}
use Rattle.run_findings.proofs.Finding.{both_true}

-- The last step of each stream so far.

pub own_more : (ds : List Action) (n next a : ℕ) (d : Action) (before : Option ℕ) → suc n ≡ next → n < length ds
    → before ≡ last_before (has_number a) ds n
    → with_step a (Some (number_of (get_or ds n d).stream)) n before ≡ last_before (has_number a) ds next
own_more ds n next a d before same within is =
    let test : has_number a (get_or ds n d) ≡ passes (has_number a) (slice_get ds n) =
    sym (ap (passes (has_number a)) (slice_get-get_or ds n d within)) in
    ap (λ t. cond t (Some n) before) test
    ∙ ap (cond (passes (has_number a) (slice_get ds n)) (Some n)) is
    ∙ ap (last_before (has_number a) ds) same

-- Numbers tell streams apart.

same_number : (t e : Step) → IsInRange t → IsInRange e → number_of e ≡ number_of t → (e.p ≡ t.p) × (e.s ≡ t.s)
same_number t e ht he same =
    let tp = ht.p in
    let ts = ht.s in
    let ep = he.p in
    let es = he.s in
    (omega arith, omega arith)

numbers_by : (t e : Step) (b : Bool) → IsInRange t → IsInRange e → (e.p == t.p && e.s == t.s) ≡ b
    → (number_of e == number_of t) ≡ b
numbers_by t e true ht he is =
    let both = both_true (e.p == t.p) (e.s == t.s) is in
    let p = eqb-true e.p t.p both.0 in
    let s = eqb-true e.s t.s both.1 in
    eq-eqb (number_of e) (number_of t) (omega (arith, p, s))
numbers_by t e false ht he is =
    false_from_ne_true (number_of e == number_of t) (λ h.
    let both = same_number t e ht he (eqb-true (number_of e) (number_of t) h) in
    false≢true (sym is ∙ and_from (e.p == t.p) (e.s == t.s) (eq-eqb e.p t.p both.0) (eq-eqb e.s t.s both.1)))

passes_same : (t : Step) (o : Option Action) → IsInRange t → IfSome o (λ d. IsInRange d.stream)
    → passes (has_number (number_of t)) o ≡ passes (is_by t) o
passes_same t None range known = refl
passes_same t (Some e) range known = numbers_by t e.stream (is_by t e) range known refl

last_same : (ds : List Action) (n : ℕ) (t : Step) → IsInRange t
    → ((k : ℕ) → k < n → IfSome (slice_get ds k) (λ d. IsInRange d.stream))
    → last_before (has_number (number_of t)) ds n ≡ last_before (is_by t) ds n
last_same ds zero t range ranges = refl
last_same ds (suc m) t range ranges =
    ap (λ b. cond b (Some m) (last_before (has_number (number_of t)) ds m))
    (passes_same t (slice_get ds m) range (ranges m (omega arith)))
    ∙ ap (cond (passes (is_by t) (slice_get ds m)) (Some m))
    (last_same ds m t range (λ k below. ranges k (omega arith)))

pub own_made : (ds : List Action) (n : ℕ) (d : Action) (latest : Latest) → n < length ds
    → IsInRange (get_or ds n d).stream
    → ((k : ℕ) → k < n → IfSome (slice_get ds k) (λ d. IsInRange d.stream))
    → ((a : ℕ) → latest_of latest a ≡ last_before (has_number a) ds n)
    → latest_in latest (Some (number_of (get_or ds n d).stream)) ≡ own_at ds n
own_made ds n d latest within range ranges is =
    let t = (get_or ds n d).stream in
    is (number_of t) ∙ last_same ds n t range ranges
    ∙ sym (ap (own_of ds n) (slice_get-get_or ds n d within))

pub ranges_more : (ds : List Action) (n : ℕ) (d : Action) → n < length ds → IsInRange (get_or ds n d).stream
    → ((k : ℕ) → k < n → IfSome (slice_get ds k) (λ d. IsInRange d.stream))
    → (k : ℕ) → k < suc n → IfSome (slice_get ds k) (λ d. IsInRange d.stream)
ranges_more ds n d within range ranges k below = ⊎_elim
    (λ h. ranges k h)
    (λ h.
    let same : n ≡ k = omega arith in
    subst (λ j. IfSome (slice_get ds j) (λ d. IsInRange d.stream)) same
    (subst (λ o. IfSome o (λ d. IsInRange d.stream)) (sym (slice_get-get_or ds n d within)) range))
    (cases_lt k n)

-- Marks from one step of a stream to the next.

through_take : (t : Step) (marks : Marks) (ds : List Action) (k : ℕ) (d : Action) → k < length ds
    → marks_through t marks (take (suc k) ds) ≡ marks_past t (marks_through t marks (take k ds)) (get_or ds k d)
through_take t marks [] k d within = absurd (omega arith)
through_take t marks (e ∷ ds) zero d within = refl
through_take t marks (e ∷ ds) (suc k) d within = through_take t (marks_past t marks e) ds k d (omega arith)

before_more : (ds : List Action) (t : Step) (r m : ℕ) (d : Action) → r < m → m < length ds
    → marks_before ds t r (suc m) ≡ marks_past t (marks_before ds t r m) (get_or ds m d)
before_more ds t r m d older within =
    let start = marks_of_read (slice_get ds r) in
    let rest = drop (r + 1) ds in
    let k = m - (r + 1) in
    let count : suc m - (r + 1) ≡ suc k = omega arith in
    let rest_length = length-drop (r + 1) ds in
    let inside : k < length rest = omega (arith, rest_length) in
    let here : r + 1 + k ≡ m = omega arith in
    ap (λ j. marks_through t start (take j rest)) count
    ∙ through_take t start rest k d inside
    ∙ ap (marks_past t (marks_before ds t r m)) (get_or-drop (r + 1) ds k d ∙ ap (λ j. get_or ds j d) here)

before_first : (ds : List Action) (t : Step) (r : ℕ) (d : Action) → slice_get ds r ≡ Some d
    → marks_before ds t r (suc r) ≡ marks_after_deed no_marks d.deed true
before_first ds t r d stands =
    let count : suc r - (r + 1) ≡ 0 = omega arith in
    ap (λ j. marks_through t (marks_of_read (slice_get ds r)) (take j (drop (r + 1) ds))) count
    ∙ ap marks_of_read stands

-- over steps of other streams they stay
skip_by : (ds : List Action) (t : Step) (r p m : ℕ) (d : Action) (b : Bool) → m < length ds → r ≤ p
    → passes (is_by t) (slice_get ds m) ≡ b → cond b (Some m) (last_before (is_by t) ds m) ≡ Some p
    → (last_before (is_by t) ds m ≡ Some p → marks_before ds t r m ≡ marks_before ds t r (suc p))
    → marks_before ds t r (suc m) ≡ marks_before ds t r (suc p)
skip_by ds t r p m d true within old is last below = let same : m ≡ p = cc in ap (λ k. marks_before ds t r (suc k)) same
skip_by ds t r p m d false within old is last below =
    let low = last-below (is_by t) ds m p last in
    let other : is_by t (get_or ds m d) ≡ false = sym (ap (passes (is_by t)) (slice_get-get_or ds m d within)) ∙ is in
    let marks = marks_before ds t r m in
    before_more ds t r m d (omega arith) within
    ∙ ap (λ b. cond b (marks_after_deed marks (get_or ds m d).deed false) marks) other
    ∙ below last

skip : (ds : List Action) (t : Step) (r p n : ℕ) (d : Action) → n ≤ length ds → r ≤ p
    → last_before (is_by t) ds n ≡ Some p → marks_before ds t r n ≡ marks_before ds t r (suc p)
skip ds t r p zero d within old last = absurd cc
skip ds t r p (suc m) d within old last =
    skip_by ds t r p m d (passes (is_by t) (slice_get ds m)) (omega arith) old refl last
    (skip ds t r p m d (omega arith) old)

-- the marks of what the last own step read
pub marks_of_last : (ds : List Action) (t : Step) (p n : ℕ) (d : Action) → n ≤ length ds → slice_get ds p ≡ Some d
    → last_before (is_by t) ds n ≡ Some p → marks_before ds t p n ≡ marks_after_deed no_marks d.deed true
marks_of_last ds t p n d within stands last =
    skip ds t p p n d within (omega arith) last ∙ before_first ds t p d stands

-- and of what an earlier step read
pub marks_of_older : (ds : List Action) (t : Step) (r p n : ℕ) (d : Action) → n ≤ length ds → slice_get ds p ≡ Some d
    → last_before (is_by t) ds n ≡ Some p → r < p
    → marks_before ds t r n ≡ marks_after_deed (marks_before ds t r p) d.deed false
marks_of_older ds t r p n d within stands last older =
    let inside = slice_get_within ds p d stands in
    let marks = marks_before ds t r p in
    let here : is_by t d ≡ true =
    sym (ap (passes (is_by t)) stands) ∙ last-passes (is_by t) ds n p last in
    let is : Some (get_or ds p d) ≡ Some d = sym (slice_get-get_or ds p d inside) ∙ stands in
    let same : get_or ds p d ≡ d = cc in
    skip ds t r p n d within (omega arith) last
    ∙ before_more ds t r p d older inside
    ∙ ap (marks_past t marks) same
    ∙ ap (λ b. cond b (marks_after_deed marks d.deed false) marks) here

-- Own steps are no later than the last.

none_by : (test : Action → Bool) (ds : List Action) (m r : ℕ) (b : Bool) → passes test (slice_get ds m) ≡ b → r < suc m
    → cond b (Some m) (last_before test ds m) ≡ None
    → (r < m → last_before test ds m ≡ None → passes test (slice_get ds r) ≡ false)
    → passes test (slice_get ds r) ≡ false
none_by test ds m r true is below last older = absurd cc
none_by test ds m r false is below last older = ⊎_elim
    (λ h. older h last)
    (λ h. let same : m ≡ r = omega arith in ap (λ k. passes test (slice_get ds k)) (sym same) ∙ is)
    (cases_lt r m)

pub none_before : (test : Action → Bool) (ds : List Action) (n r : ℕ) → r < n → last_before test ds n ≡ None
    → passes test (slice_get ds r) ≡ false
none_before test ds zero r below last = absurd (omega arith)
none_before test ds (suc m) r below last =
    none_by test ds m r (passes test (slice_get ds m)) refl below last (λ h. none_before test ds m r h)

later_by : (test : Action → Bool) (ds : List Action) (m r p : ℕ) (b : Bool) → passes test (slice_get ds m) ≡ b → r < suc m
    → cond b (Some m) (last_before test ds m) ≡ Some p → passes test (slice_get ds r) ≡ true
    → (r < m → last_before test ds m ≡ Some p → r ≤ p) → r ≤ p
later_by test ds m r p true is below last own older = let same : m ≡ p = cc in omega arith
later_by test ds m r p false is below last own older = ⊎_elim
    (λ h. older h last)
    (λ h.
    let same : m ≡ r = omega arith in
    absurd (false≢true (sym is ∙ ap (λ k. passes test (slice_get ds k)) same ∙ own)))
    (cases_lt r m)

pub none_later : (test : Action → Bool) (ds : List Action) (n r p : ℕ) → r < n → last_before test ds n ≡ Some p
    → passes test (slice_get ds r) ≡ true → r ≤ p
none_later test ds zero r p below last own = absurd (omega arith)
none_later test ds (suc m) r p below last own =
    later_by test ds m r p (passes test (slice_get ds m)) refl below last own (λ h e. none_later test ds m r p h e own)

-- A link is below its step.

own_by : (ds : List Action) (n p : ℕ) (o : Option Action) → own_of ds n o ≡ Some p → p < n
own_by ds n p None own = absurd cc
own_by ds n p (Some d) own = last-below (is_by d.stream) ds n p own

pub own_below : (ds : List Action) (n p : ℕ) → own_at ds n ≡ Some p → p < n
own_below ds n p own = own_by ds n p (slice_get ds n) own

pub own_if_below : (ds : List Action) (n : ℕ) (o : Option ℕ) → o ≡ own_at ds n → IfSome o (λ p. p < n)
own_if_below ds n None is = tt
own_if_below ds n (Some p) is = own_below ds n p (sym is)
