-- Words that are written after a step.
use Rattle.std.proofs.Common.{◌≡◌, ℕ, zero, suc, ◌<◌, ◌≤◌, ◌==◌, Bool, true, false, not, cond, List, length, Option, Some, None}
use Rattle.std.proofs.Common.{refl, sym, ap, ◌∙◌, arith, lt-ltb, ⊎_elim, ◌&&◌, ◌||◌}
use Rattle.std.specs.List.{slice_get}
use Rattle.std.proofs.lemmas.Bool.{false≢true, eq-eqb, cases_lt}
use Rattle.processor.specs.declared.steps.Step.{Step}
use Rattle.run_findings.specs.Actions.{access_writes, writes, is_by, is_other_bit}
use Rattle.run_findings.specs.Places.{passes, last_before}
use Rattle.run_findings.specs.TornReads.{is_later, is_load_of, word_loaded, word_changed, loaded_by}
use Rattle.run_findings.specs.Links.{word_in, link_to, is_overwritten}
use Rattle.run_findings.specs.declared.actions.Access.{Access}
use Rattle.run_findings.specs.declared.actions.Action.{Action}
use Rattle.run_findings.specs.declared.parting.Meeting.TheVariants as meeting
use Rattle.run_findings.proofs.Chains.{loaded-word}
use Rattle.run_findings.proofs.Finding.{both_true}
use Rattle.run_findings.proofs.Words.{load_is}

-- A change is a write.

written : (b a : ℕ) (t p q r : Bool) → (p && q) ≡ t → cond t (Some b) None ≡ Some a → (b == a && (p || r)) ≡ true
written b a false p q r is e = absurd cc
written b a true p q r is e =
    let same : b ≡ a = cc in
    ap (λ v. v && (p || r)) (eq-eqb b a same) ∙ ap (λ v. v || r) (both_true p q is).0

pub change-writes : (o : Option Access) (a : ℕ) → word_changed o ≡ Some a → access_writes a o ≡ true
change-writes None a e = absurd cc
change-writes (Some x) a e =
    written x.address a (not (x.before == x.after) && x.full) (not (x.before == x.after)) x.full
    (is_other_bit x.full x.full_after) refl e

-- A step that passes is not after the last one.

last-by : (test : Action → Bool) (ds : List Action) (m k : ℕ) (t : Bool) → passes test (slice_get ds m) ≡ t
    → k < suc m → passes test (slice_get ds k) ≡ true
    → (k < m → (u : ℕ) × (last_before test ds m ≡ Some u) × (k ≤ u))
    → (u : ℕ) × (last_before test ds (suc m) ≡ Some u) × (k ≤ u)
last-by test ds m k true is below passed rest =
    (m, ap (λ b. cond b (Some m) (last_before test ds m)) is, omega arith)
last-by test ds m k false is below passed rest = ⊎_elim
    (λ h.
    let r = rest h in
    (r.0, ap (λ b. cond b (Some m) (last_before test ds m)) is ∙ r.1, r.2))
    (λ h.
    let same : k ≡ m = omega arith in
    absurd (false≢true (sym is ∙ sym (ap (λ j. passes test (slice_get ds j)) same) ∙ passed)))
    (cases_lt k m)

pub last-from : (test : Action → Bool) (ds : List Action) (n k : ℕ) → k < n → passes test (slice_get ds k) ≡ true
    → (u : ℕ) × (last_before test ds n ≡ Some u) × (k ≤ u)
last-from test ds zero k below passed = absurd (omega arith)
last-from test ds (suc m) k below passed =
    last-by test ds m k (passes test (slice_get ds m)) refl below passed (λ h. last-from test ds m k h passed)

-- The word that a step read.

loaded-in : (t : Step) (a : ℕ) (o : Option Action) → passes (loaded_by t a) o ≡ true → word_in o ≡ Some a
loaded-in t a None h = absurd (false≢true h)
loaded-in t a (Some d) h =
    loaded-word d.access a
    (load_is (word_loaded d.access) a (both_true (is_by t d) (is_load_of (word_loaded d.access) a) h).1)

-- a word that was read, and is written after that, is overwritten
pub overwritten : (ds : List Action) (t : Step) (a i k : ℕ) → i < k → k < length ds
    → passes (loaded_by t a) (slice_get ds i) ≡ true → passes (writes a) (slice_get ds k) ≡ true
    → is_overwritten ds i ≡ true
overwritten ds t a i k before within read write =
    let r = last-from (writes a) ds (length ds) k within write in
    let low = r.2 in
    ap (λ w. is_later i (link_to meeting.Writes ds (length ds) w)) (loaded-in t a (slice_get ds i) read)
    ∙ ap (is_later i) r.1
    ∙ lt-ltb i r.0 (omega arith)
