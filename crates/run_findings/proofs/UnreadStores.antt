-- What is computed of unread stores is what they are.
use Rattle.std.proofs.Common.{◌≡◌, ◌≢◌, ℕ, ◌<◌, ◌==◌, Bool, true, false, not, ◌&&◌, cond, List, length, Option, Some, None}
use Rattle.std.proofs.Common.{refl, sym, ap, ◌∙◌, subst, unwrap_or, ne_eqb}
use Rattle.std.specs.List.{slice_get, Contains, AllPairs}
use Rattle.std.proofs.lemmas.Bool.{false≢true, eqb-false}
use Rattle.std.proofs.lemmas.Option.{slice_get_within}
use Rattle.run_findings.specs.Actions.{is_by, met}
use Rattle.run_findings.specs.Places.{last_before}
use Rattle.run_findings.specs.LostUpdates.{lost_at}
use Rattle.run_findings.specs.UnreadStores.{IsUnreadStore, store_of, is_of_other, is_unread, unless_lost, if_unread}
use Rattle.run_findings.specs.UnreadStores.{unread_before, unread_over, unread_store, unread_in, unread_at}
use Rattle.run_findings.specs.Found.{found_to}
use Rattle.run_findings.specs.declared.actions.Access.{Access}
use Rattle.run_findings.specs.declared.actions.Action.{Action}
use Rattle.run_findings.specs.declared.lost.LostUpdate.{LostUpdate}
use Rattle.run_findings.specs.declared.unread.UnreadStore.{UnreadStore}
use Rattle.run_findings.proofs.Finding.{found-cases, found-there, found-ordered}
use Rattle.run_findings.proofs.LostUpdates.{none_lost, lost_none}

abbrev store_at : ℕ → ℕ → ℕ → UnreadStore
store_at a o n = record { word = a; over = o; stored = n }

abbrev IsAt : List Action → ℕ → UnreadStore → Type 0
IsAt ds n f = IsUnreadStore ds f × (f.stored ≡ n)

apart : (a b : Bool) → (not a && b) ≡ true → (a ≡ false) × (b ≡ true)
apart true b h = absurd (false≢true h)
apart false b h = (refl, h)

other_value : (m n : ℕ) (t : Bool) → (m == n) ≡ t → not t ≡ true → m ≢ n
other_value m n true test h = absurd (false≢true h)
other_value m n false test h = eqb-false m n test

-- What is computed is one.

by_lost : (ds : List Action) (n o : ℕ) (d e : Action) (x : Access) (lost : Option Access)
    → slice_get ds n ≡ Some d → store_of d.access ≡ Some x → last_before (met x.address) ds n ≡ Some o
    → slice_get ds o ≡ Some e → store_of e.access ≡ lost → is_by d.stream e ≡ false
    → is_of_other x.after lost ≡ true → lost_at ds n ≡ None → IsUnreadStore ds (store_at x.address o n)
by_lost ds n o d e x None stands stores last stood before by test alone = absurd (false≢true test)
by_lost ds n o d e x (Some y) stands stores last stood before by test alone = record {
  storer = d;
  store = x;
  stands = stands;
  stores = stores;
  word = refl;
  last = last;
  other = e;
  lost = y;
  stood = stood;
  stored_before = before;
  by_other = by;
  differs = other_value y.after x.after (y.after == x.after) refl test;
  alone = none_lost ds n alone;
}

by_update : (ds : List Action) (n o : ℕ) (d e : Action) (x : Access) (f : UnreadStore) (update : Option LostUpdate)
    → lost_at ds n ≡ update → is_unread d x e ≡ true → slice_get ds n ≡ Some d → store_of d.access ≡ Some x
    → last_before (met x.address) ds n ≡ Some o → slice_get ds o ≡ Some e
    → unless_lost (store_at x.address o n) update ≡ Some f → IsAt ds n f
by_update ds n o d e x f (Some g) alone test stands stores last stood is = absurd cc
by_update ds n o d e x f None alone test stands stores last stood is =
    let both = apart (is_by d.stream e) (is_of_other x.after (store_of e.access)) test in
    let same : store_at x.address o n ≡ f = ap (λ g. unwrap_or g (store_at x.address o n)) is in
    subst (IsAt ds n) same (
      by_lost ds n o d e x (store_of e.access) stands stores last stood refl both.0 both.1 alone,
      refl,
    )

by_test : (ds : List Action) (n o : ℕ) (d e : Action) (x : Access) (f : UnreadStore) (t : Bool)
    → is_unread d x e ≡ t → slice_get ds n ≡ Some d → store_of d.access ≡ Some x
    → last_before (met x.address) ds n ≡ Some o → slice_get ds o ≡ Some e
    → unread_over ds x n (cond t (Some o) None) ≡ Some f → IsAt ds n f
by_test ds n o d e x f false test stands stores last stood is = absurd cc
by_test ds n o d e x f true test stands stores last stood is =
    by_update ds n o d e x f (lost_at ds n) refl test stands stores last stood is

by_other : (ds : List Action) (n o : ℕ) (d : Action) (x : Access) (f : UnreadStore) (other : Option Action)
    → slice_get ds n ≡ Some d → store_of d.access ≡ Some x
    → last_before (met x.address) ds n ≡ Some o → slice_get ds o ≡ other
    → unread_over ds x n (if_unread d x o other) ≡ Some f → IsAt ds n f
by_other ds n o d x f None stands stores last stood is = absurd cc
by_other ds n o d x f (Some e) stands stores last stood is =
    by_test ds n o d e x f (is_unread d x e) refl stands stores last stood is

by_last : (ds : List Action) (n : ℕ) (d : Action) (x : Access) (f : UnreadStore) (over : Option ℕ)
    → slice_get ds n ≡ Some d → store_of d.access ≡ Some x → last_before (met x.address) ds n ≡ over
    → unread_over ds x n (unread_before ds d x over) ≡ Some f → IsAt ds n f
by_last ds n d x f None stands stores last is = absurd cc
by_last ds n d x f (Some o) stands stores last is =
    by_other ds n o d x f (slice_get ds o) stands stores last refl is

by_store : (ds : List Action) (n : ℕ) (d : Action) (f : UnreadStore) (store : Option Access)
    → slice_get ds n ≡ Some d → store_of d.access ≡ store → unread_store ds n d store ≡ Some f → IsAt ds n f
by_store ds n d f None stands stores is = absurd cc
by_store ds n d f (Some x) stands stores is =
    by_last ds n d x f (last_before (met x.address) ds n) stands stores refl is

by_step : (ds : List Action) (n : ℕ) (f : UnreadStore) (step : Option Action)
    → slice_get ds n ≡ step → unread_in ds n step ≡ Some f → IsAt ds n f
by_step ds n f None stands is = absurd cc
by_step ds n f (Some d) stands is = by_store ds n d f (store_of d.access) stands refl is

is_at : (ds : List Action) (n : ℕ) (f : UnreadStore) → unread_at ds n ≡ Some f → IsAt ds n f
unfolding unread_at
is_at ds n f is = by_step ds n f (slice_get ds n) refl is

-- Each is computed.

passes_test : (a b : Bool) → a ≡ false → b ≡ true → (not a && b) ≡ true
passes_test a b e f = ap (λ t. not t && b) e ∙ f

computed : (ds : List Action) (f : UnreadStore) → IsUnreadStore ds f → unread_at ds f.stored ≡ Some f
unfolding unread_at
computed ds f h =
    let n = f.stored in
    let d = h.storer in
    let x = h.store in
    let e = h.other in
    let last : last_before (met x.address) ds n ≡ Some f.over =
    ap (λ a. last_before (met a) ds n) h.word ∙ h.last in
    let value : is_of_other x.after (store_of e.access) ≡ true =
    ap (is_of_other x.after) h.stored_before ∙ ap not (ne_eqb h.lost.after x.after h.differs) in
    let test : is_unread d x e ≡ true =
    passes_test (is_by d.stream e) (is_of_other x.after (store_of e.access)) h.by_other value in
    ap (unread_in ds n) h.stands ∙ ap (unread_store ds n d) h.stores
    ∙ ap (λ o. unread_over ds x n (unread_before ds d x o)) last
    ∙ ap (λ e. unread_over ds x n (if_unread d x f.over e)) h.stood
    ∙ ap (λ t. unread_over ds x n (cond t (Some f.over) None)) test
    ∙ ap (unless_lost (store_at x.address f.over n)) (lost_none ds n h.alone)
    ∙ ap (λ a. Some (store_at a f.over n)) h.word

pub unread-exact : (ds : List Action) (found : List UnreadStore) → found ≡ found_to (unread_at ds) (length ds)
    → (f : UnreadStore) → (Contains found f → IsUnreadStore ds f) × (IsUnreadStore ds f → Contains found f)
unread-exact ds found e f = (
  λ c.
      let r = found-cases (unread_at ds) (length ds) f (subst (λ fs. Contains fs f) e c) in
      (is_at ds r.0 f r.2).0,
  λ h.
      let within = slice_get_within ds f.stored h.storer h.stands in
      subst (λ fs. Contains fs f) (sym e) (found-there (unread_at ds) (length ds) f.stored f within (computed ds f h)),
)

pub unread-ordered : (ds : List Action) (found : List UnreadStore) → found ≡ found_to (unread_at ds) (length ds)
    → AllPairs (λ (f g : UnreadStore). f.stored < g.stored) found
unread-ordered ds found e =
    subst (AllPairs (λ (f g : UnreadStore). f.stored < g.stored)) (sym e)
    (found-ordered (λ (f : UnreadStore). f.stored) (unread_at ds) (λ k f h. (is_at ds k f h).1) (length ds))
