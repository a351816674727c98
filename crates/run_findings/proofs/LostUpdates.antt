-- What is computed of lost updates is what they are.
use Rattle.std.proofs.Common.{◌≡◌, ◌≢◌, ℕ, ◌<◌, Bool, true, false, List, length, Option, Some, None, refl, sym, ap, ◌∙◌}
use Rattle.std.proofs.Common.{subst, cond, unwrap_or}
use Rattle.std.specs.List.{slice_get, Contains, AllPairs}
use Rattle.std.proofs.lemmas.Option.{slice_get_within}
use Rattle.run_findings.specs.Actions.{is_by, written_or_read_by}
use Rattle.run_findings.specs.Places.{last_before, last_below}
use Rattle.run_findings.specs.LostUpdates.{IsLostUpdate, full_store, is_source, unless_own, other_write, lost_from, lost_over}
use Rattle.run_findings.specs.LostUpdates.{lost_store, lost_by, lost_at}
use Rattle.run_findings.specs.Found.{found_to}
use Rattle.run_findings.specs.declared.actions.Action.{Action}
use Rattle.run_findings.specs.declared.lost.LostUpdate.{LostUpdate}
use Rattle.run_findings.proofs.Finding.{found-cases, found-there, found-ordered}

abbrev update : ℕ → ℕ → ℕ → ℕ → LostUpdate
update a r o n = record { word = a; read = r; over = o; stored = n }

abbrev IsAt : List Action → ℕ → LostUpdate → Type 0
IsAt ds n f = IsLostUpdate ds f × (f.stored ≡ n)

-- What is computed is one.

by_read : (ds : List Action) (n : ℕ) (d e : Action) (a o : ℕ) (f : LostUpdate) (read : Option ℕ)
    → slice_get ds n ≡ Some d → full_store d.access ≡ Some a
    → last_before (written_or_read_by d.stream a) ds n ≡ Some o → slice_get ds o ≡ Some e
    → is_by d.stream e ≡ false → last_below (is_source ds n d a) o ≡ read
    → lost_from n a o read ≡ Some f → IsAt ds n f
by_read ds n d e a o f None stands stores last stood others made is = absurd cc
by_read ds n d e a o f (Some r) stands stores last stood others made is =
    let same : update a r o n ≡ f = ap (λ x. unwrap_or x (update a r o n)) is in
    subst (IsAt ds n) same (
      record {
        storer = d;
        stands = stands;
        stores = stores;
        last = last;
        writer = e;
        stood = stood;
        others = others;
        made = made;
      },
      refl,
    )

by_test : (ds : List Action) (n : ℕ) (d e : Action) (a o : ℕ) (f : LostUpdate) (t : Bool)
    → is_by d.stream e ≡ t → slice_get ds n ≡ Some d → full_store d.access ≡ Some a
    → last_before (written_or_read_by d.stream a) ds n ≡ Some o → slice_get ds o ≡ Some e
    → lost_over ds n d a (cond t None (Some o)) ≡ Some f → IsAt ds n f
by_test ds n d e a o f true others stands stores last stood is = absurd cc
by_test ds n d e a o f false others stands stores last stood is =
    by_read ds n d e a o f (last_below (is_source ds n d a) o) stands stores last stood others refl is

by_writer : (ds : List Action) (n : ℕ) (d : Action) (a o : ℕ) (f : LostUpdate) (writer : Option Action)
    → slice_get ds n ≡ Some d → full_store d.access ≡ Some a
    → last_before (written_or_read_by d.stream a) ds n ≡ Some o → slice_get ds o ≡ writer
    → lost_over ds n d a (unless_own d o writer) ≡ Some f → IsAt ds n f
by_writer ds n d a o f None stands stores last stood is = absurd cc
by_writer ds n d a o f (Some e) stands stores last stood is =
    by_test ds n d e a o f (is_by d.stream e) refl stands stores last stood is

by_last : (ds : List Action) (n : ℕ) (d : Action) (a : ℕ) (f : LostUpdate) (over : Option ℕ)
    → slice_get ds n ≡ Some d → full_store d.access ≡ Some a
    → last_before (written_or_read_by d.stream a) ds n ≡ over → lost_over ds n d a (other_write ds d over) ≡ Some f
    → IsAt ds n f
by_last ds n d a f None stands stores last is = absurd cc
by_last ds n d a f (Some o) stands stores last is =
    by_writer ds n d a o f (slice_get ds o) stands stores last refl is

by_store : (ds : List Action) (n : ℕ) (d : Action) (f : LostUpdate) (word : Option ℕ)
    → slice_get ds n ≡ Some d → full_store d.access ≡ word → lost_store ds n d word ≡ Some f → IsAt ds n f
by_store ds n d f None stands stores is = absurd cc
by_store ds n d f (Some a) stands stores is =
    by_last ds n d a f (last_before (written_or_read_by d.stream a) ds n) stands stores refl is

by_step : (ds : List Action) (n : ℕ) (f : LostUpdate) (step : Option Action)
    → slice_get ds n ≡ step → lost_by ds n step ≡ Some f → IsAt ds n f
by_step ds n f None stands is = absurd cc
by_step ds n f (Some d) stands is = by_store ds n d f (full_store d.access) stands refl is

is_at : (ds : List Action) (n : ℕ) (f : LostUpdate) → lost_at ds n ≡ Some f → IsAt ds n f
unfolding lost_at
is_at ds n f is = by_step ds n f (slice_get ds n) refl is

-- Each is computed.

computed : (ds : List Action) (f : LostUpdate) → IsLostUpdate ds f → lost_at ds f.stored ≡ Some f
unfolding lost_at
computed ds f h =
    let n = f.stored in
    let d = h.storer in
    let over = lost_over ds n d f.word in
    ap (lost_by ds n) h.stands ∙ ap (lost_store ds n d) h.stores
    ∙ ap (λ o. over (other_write ds d o)) h.last
    ∙ ap (λ e. over (unless_own d f.over e)) h.stood
    ∙ ap (λ t. over (cond t None (Some f.over))) h.others
    ∙ ap (lost_from n f.word f.over) h.made

-- where none is computed there is none
pub none_lost : (ds : List Action) (n : ℕ) → lost_at ds n ≡ None → (g : LostUpdate) → IsLostUpdate ds g → g.stored ≢ n
none_lost ds n none g h same =
    let there : lost_at ds n ≡ Some g = sym (ap (lost_at ds) same) ∙ computed ds g h in
    absurd cc

-- and where there is none, none is computed
none_by : (ds : List Action) (n : ℕ) (found : Option LostUpdate) → lost_at ds n ≡ found
    → ((g : LostUpdate) → IsLostUpdate ds g → g.stored ≢ n) → found ≡ None
none_by ds n None is none = refl
none_by ds n (Some g) is none = let at = is_at ds n g is in absurd (none g at.0 at.1)

pub lost_none : (ds : List Action) (n : ℕ) → ((g : LostUpdate) → IsLostUpdate ds g → g.stored ≢ n) → lost_at ds n ≡ None
lost_none ds n none = none_by ds n (lost_at ds n) refl none

pub lost-exact : (ds : List Action) (found : List LostUpdate) → found ≡ found_to (lost_at ds) (length ds)
    → (f : LostUpdate) → (Contains found f → IsLostUpdate ds f) × (IsLostUpdate ds f → Contains found f)
lost-exact ds found e f = (
  λ c.
      let r = found-cases (lost_at ds) (length ds) f (subst (λ fs. Contains fs f) e c) in
      (is_at ds r.0 f r.2).0,
  λ h.
      let within = slice_get_within ds f.stored h.storer h.stands in
      subst (λ fs. Contains fs f) (sym e) (found-there (lost_at ds) (length ds) f.stored f within (computed ds f h)),
)

pub lost-ordered : (ds : List Action) (found : List LostUpdate) → found ≡ found_to (lost_at ds) (length ds)
    → AllPairs (λ (f g : LostUpdate). f.stored < g.stored) found
lost-ordered ds found e =
    subst (AllPairs (λ (f g : LostUpdate). f.stored < g.stored)) (sym e)
    (found-ordered (λ (f : LostUpdate). f.stored) (lost_at ds) (λ k f h. (is_at ds k f h).1) (length ds))
