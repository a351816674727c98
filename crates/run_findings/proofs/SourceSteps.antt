-- Back over the steps of a stream, to the read from which a value was computed.
use Rattle.std.proofs.Common.{◌≡◌, ℕ, zero, suc, ◌<◌, ◌≤◌, ◌==◌, Bool, true, false, cond, List, length}
use Rattle.std.proofs.Common.{Option, Some, None, refl, sym, ap, ◌∙◌, subst, arith, ◌&&◌, ⊎_elim}
use Rattle.std.specs.List.{slice_get}
use Rattle.std.proofs.lemmas.Bool.{cases_lt, eq-eqb, false≢true, and_from, and_left, and_right, cases_Bool}
use Rattle.processor.specs.declared.steps.Step.{Step}
use Rattle.run_findings.specs.Actions.{is_by, reads, read_by}
use Rattle.run_findings.specs.Places.{passes, last_before, last_below}
use Rattle.run_findings.specs.Marks.{no_marks, marks_after_deed, marks_before, stores_marked, is_made_of}
use Rattle.run_findings.specs.Needs.{are_shared, IsPart}
use Rattle.run_findings.specs.Own.{own_at, own_of}
use Rattle.run_findings.specs.Sources.{AreAllAt, is_needed_read}
use Rattle.run_findings.specs.LostUpdates.{is_source}
use Rattle.run_findings.specs.declared.actions.Action.{Action}
use Rattle.run_findings.specs.declared.marks.Marks.{Marks}
use Rattle.run_findings.proofs.Before.{last-below}
use Rattle.run_findings.proofs.Chains.{last-passes}
use Rattle.run_findings.proofs.OwnSteps.{marks_of_last, marks_of_older, none_before, none_later}
use Rattle.run_findings.proofs.AllMarks.{stream_is, all_of}

-- whether step k is of a stream
abbrev is_own : List Action → Step → ℕ → Bool
is_own ds t k = passes (is_by t) (slice_get ds k)

-- What is needed before step m, which is of the stream of step n, tells of all reads before it whether what step n stores
-- comes from them. It comes from none after it, before step o.
pub record WalkTo (ds : List Action) (n : ℕ) (d : Action) (a o m : ℕ) (needed : Marks) : Type 0 where
  pub within : m ≤ n
  pub own : is_own ds d.stream m ≡ true
  pub needs : (r : ℕ) → r < m → is_own ds d.stream r ≡ true
      → stores_marked d.deed (marks_before ds d.stream r n) ≡ are_shared (marks_before ds d.stream r m) needed
  pub none : (k : ℕ) → m ≤ k → k < o → is_source ds n d a k ≡ false

self_by : (d : Action) → is_by d.stream d ≡ true
self_by d =
    and_from (d.stream.p == d.stream.p) (d.stream.s == d.stream.s) (eq-eqb d.stream.p d.stream.p refl)
    (eq-eqb d.stream.s d.stream.s refl)

pub first_walk : (ds : List Action) (n : ℕ) (d : Action) (a o : ℕ) (any needed : Marks) → o < n → slice_get ds n ≡ Some d
    → AreAllAt ds n any → ((m : Marks) → IsPart m any → are_shared m needed ≡ stores_marked d.deed m)
    → WalkTo ds n d a o n needed
first_walk ds n d a o any needed below stands at is = record {
  within = omega arith;
  own = ap (passes (is_by d.stream)) stands ∙ self_by d;
  needs = λ r early own.
      sym (is (marks_before ds d.stream r n) (at.all d stands r early own));
  none = λ k late early. absurd (omega (arith, late, early, below));
}

-- the last of the numbers that pass
none_below : (test : ℕ → Bool) (n : ℕ) → ((k : ℕ) → k < n → test k ≡ false) → None ≡ last_below test n
none_below test zero none = refl
none_below test (suc m) none =
    none_below test m (λ k below. none k (omega arith))
    ∙ sym (ap (λ b. cond b (Some m) (last_below test m)) (none m (omega arith)))

one_below : (test : ℕ → Bool) (n p : ℕ) → p < n → test p ≡ true → ((k : ℕ) → p < k → k < n → test k ≡ false)
    → Some p ≡ last_below test n
one_below test zero p below passed none = absurd (omega arith)
one_below test (suc m) p below passed none = ⊎_elim
    (λ h.
    one_below test m p h passed (λ k above under. none k above (omega arith))
    ∙ sym (ap (λ b. cond b (Some m) (last_below test m)) (none m h (omega arith))))
    (λ h.
    let same : p ≡ m = omega arith in
    ap Some same ∙ sym (ap (λ b. cond b (Some m) (last_below test m)) (sym (ap test same) ∙ passed)))
    (cases_lt p m)

-- a step of another stream is no source
others_by : (t : Step) (a : ℕ) (o : Option Action) → passes (is_by t) o ≡ false → passes (read_by t a) o ≡ false
others_by t a None other = refl
others_by t a (Some d) other = and_left (is_by t d) (reads a d) other

others_none : (ds : List Action) (n : ℕ) (d : Action) (a k : ℕ) → is_own ds d.stream k ≡ false
    → is_source ds n d a k ≡ false
others_none ds n d a k other =
    and_left (passes (read_by d.stream a) (slice_get ds k)) (is_made_of ds k n d)
    (others_by d.stream a (slice_get ds k) other)

-- nor one of which nothing is needed
unneeded : (ds : List Action) (n : ℕ) (d : Action) (a k : ℕ) → stores_marked d.deed (marks_before ds d.stream k n) ≡ false
    → is_source ds n d a k ≡ false
unneeded ds n d a k is = and_right (passes (read_by d.stream a) (slice_get ds k)) (is_made_of ds k n d) is

pub no_walk : (ds : List Action) (n : ℕ) (d : Action) (a o m : ℕ) (needed : Marks) → WalkTo ds n d a o m needed
    → ((marks : Marks) → are_shared marks needed ≡ false) → None ≡ last_below (is_source ds n d a) o
no_walk ds n d a o m needed walk empty = none_below (is_source ds n d a) o (λ k below. ⊎_elim
    (λ h. ⊎_elim
    (λ own. unneeded ds n d a k (walk.needs k h own ∙ empty (marks_before ds d.stream k m)))
    (λ other. others_none ds n d a k other)
    (cases_Bool (is_own ds d.stream k)))
    (λ h. walk.none k h below)
    (cases_lt k m))

last_by : (ds : List Action) (t : Step) (m : ℕ) (o : Option ℕ) (step : Option Action) → slice_get ds m ≡ step
    → passes (is_by t) step ≡ true → own_of ds m step ≡ o → last_before (is_by t) ds m ≡ o
last_by ds t m o None stands own link = absurd (false≢true own)
last_by ds t m o (Some e) stands own link =
    sym (ap (λ s. last_before (is_by s) ds m) (stream_is t e own)) ∙ link

last_own : (ds : List Action) (t : Step) (m : ℕ) (o : Option ℕ) → is_own ds t m ≡ true → own_at ds m ≡ o
    → last_before (is_by t) ds m ≡ o
last_own ds t m o own link = last_by ds t m o (slice_get ds m) refl own link

pub end_walk : (ds : List Action) (n : ℕ) (d : Action) (a o m : ℕ) (needed : Marks) → WalkTo ds n d a o m needed
    → own_at ds m ≡ None → None ≡ last_below (is_source ds n d a) o
end_walk ds n d a o m needed walk link = none_below (is_source ds n d a) o (λ k below. ⊎_elim
    (λ h.
    others_none ds n d a k (none_before (is_by d.stream) ds m k h (last_own ds d.stream m None walk.own link)))
    (λ h. walk.none k h below)
    (cases_lt k m))

-- between a step of the stream and the one before it there is no source
between : (ds : List Action) (n : ℕ) (d : Action) (a m p k : ℕ) → last_before (is_by d.stream) ds m ≡ Some p → p < k
    → k < m → is_source ds n d a k ≡ false
between ds n d a m p k last above below = ⊎_elim
    (λ own. let old = none_later (is_by d.stream) ds m k p below last own in absurd (omega arith))
    (λ other. others_none ds n d a k other)
    (cases_Bool (is_own ds d.stream k))

-- whether the last step of the stream before step m is a source
source_is : (ds : List Action) (n : ℕ) (d : Action) (a o m p : ℕ) (e : Action) (needed : Marks) → n < length ds
    → WalkTo ds n d a o m needed → last_before (is_by d.stream) ds m ≡ Some p → slice_get ds p ≡ Some e
    → is_source ds n d a p ≡ is_needed_read e a needed
source_is ds n d a o m p e needed within walk last stands =
    let low = last-below (is_by d.stream) ds m p last in
    let inside = walk.within in
    let own : is_own ds d.stream p ≡ true = last-passes (is_by d.stream) ds m p last in
    let by : is_by d.stream e ≡ true = sym (ap (passes (is_by d.stream)) stands) ∙ own in
    let made : is_made_of ds p n d ≡ are_shared (marks_after_deed no_marks e.deed true) needed =
    walk.needs p low own
    ∙ ap (λ m. are_shared m needed) (marks_of_last ds d.stream p m e (omega arith) stands last) in
    ap (λ t. t && is_made_of ds p n d) (ap (passes (read_by d.stream a)) stands ∙ ap (λ t. t && reads a e) by)
    ∙ ap (λ t. reads a e && t) made

pub found_walk : (ds : List Action) (n : ℕ) (d : Action) (a o m p : ℕ) (e : Action) (needed : Marks) → n < length ds
    → WalkTo ds n d a o m needed → own_at ds m ≡ Some p → slice_get ds p ≡ Some e → p < o
    → is_needed_read e a needed ≡ true → Some p ≡ last_below (is_source ds n d a) o
found_walk ds n d a o m p e needed within walk link stands early found =
    let last = last_own ds d.stream m (Some p) walk.own link in
    one_below (is_source ds n d a) o p early
    (source_is ds n d a o m p e needed within walk last stands ∙ found)
    (λ k above below. ⊎_elim
    (λ h. between ds n d a m p k last above h)
    (λ h. walk.none k h below)
    (cases_lt k m))

pub next_walk : (ds : List Action) (n : ℕ) (d : Action) (a o m p : ℕ) (e : Action) (any needed next : Marks)
    → n < length ds → WalkTo ds n d a o m needed → own_at ds m ≡ Some p → slice_get ds p ≡ Some e → AreAllAt ds p any
    → ((marks : Marks) → IsPart marks any → are_shared (marks_after_deed marks e.deed false) needed ≡ are_shared marks next)
    → (p < o → is_needed_read e a needed ≡ false) → WalkTo ds n d a o p next
next_walk ds n d a o m p e any needed next within walk link stands at is missed =
    let t = d.stream in
    let last = last_own ds t m (Some p) walk.own link in
    let low = last-below (is_by t) ds m p last in
    let inside = walk.within in
    let own : is_own ds t p ≡ true = last-passes (is_by t) ds m p last in
    let by : is_by t e ≡ true = sym (ap (passes (is_by t)) stands) ∙ own in
    record {
      within = omega arith;
      own = own;
      needs = λ r early by_stream.
          walk.needs r (omega arith) by_stream
          ∙ ap (λ marks. are_shared marks needed) (marks_of_older ds t r p m e (omega arith) stands last early)
          ∙ is (marks_before ds t r p) (all_of ds t p any e stands by at r early by_stream);
      none = λ k late early. ⊎_elim
          (λ h. ⊎_elim
          (λ above. between ds n d a m p k last above h)
          (λ not_above.
          let same : p ≡ k = omega arith in
          subst (λ j. is_source ds n d a j ≡ false) same
          (source_is ds n d a o m p e needed within walk last stands ∙ missed (omega arith)))
          (cases_lt p k))
          (λ h. walk.none k h early)
          (cases_lt k m);
    }
