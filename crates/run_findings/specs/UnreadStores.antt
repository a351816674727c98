-- Unread stores.
use Rattle.std.specs.Prelude.{◌≡◌, ◌≢◌, ℕ, ◌==◌, Bool, false, not, ◌&&◌, if◌then◌else◌, List, Option, Some, None}
use Rattle.std.specs.Prelude.{slice_get}
use Rattle.run_findings.specs.Actions.{is_store, is_by, met}
use Rattle.run_findings.specs.Places.{last_before}
use Rattle.run_findings.specs.LostUpdates.{IsLostUpdate, lost_at}
use Rattle.run_findings.specs.declared.lost.LostUpdate.{LostUpdate}
use Rattle.run_findings.specs.declared.actions.Access.{Access}
use Rattle.run_findings.specs.declared.actions.Action.{Action}
use Rattle.run_findings.specs.declared.unread.UnreadStore.{UnreadStore}

-- the access of a STORE
abbrev pub store_of : Option Access → Option Access
store_of None = None
store_of (Some x) = if is_store x.op then Some x else None

-- In step `stored` a stream stores into a word; the last step before that read or wrote the word is `over`, in which
-- another stream had stored another value. No lost update ends with the same store.
pub record IsUnreadStore (ds : List Action) (f : UnreadStore) : Type 0 where
  pub storer : Action
  pub store : Access
  pub stands : slice_get ds f.stored ≡ Some storer
  pub stores : store_of storer.access ≡ Some store
  pub word : store.address ≡ f.word
  pub last : last_before (met f.word) ds f.stored ≡ Some f.over
  pub other : Action
  pub lost : Access
  pub stood : slice_get ds f.over ≡ Some other
  pub stored_before : store_of other.access ≡ Some lost
  pub by_other : is_by storer.stream other ≡ false
  pub differs : lost.after ≢ store.after
  pub alone : (g : LostUpdate) → IsLostUpdate ds g → g.stored ≢ f.stored

-- The same by computing, for the code.

abbrev pub is_of_other : ℕ → Option Access → Bool
is_of_other value None = false
is_of_other value (Some y) = not (y.after == value)

-- whether a step of another stream stored another value
abbrev pub is_unread : Action → Access → Action → Bool
is_unread d x e = not (is_by d.stream e) && is_of_other x.after (store_of e.access)

-- this, where it is no lost update
abbrev pub unless_lost : UnreadStore → Option LostUpdate → Option UnreadStore
unless_lost f None = Some f
unless_lost f (Some g) = None

abbrev pub if_unread : Action → Access → ℕ → Option Action → Option ℕ
if_unread d x o None = None
if_unread d x o (Some e) = if is_unread d x e then Some o else None

-- step o, if there is one and it is another stream's store of another value
abbrev pub unread_before : List Action → Action → Access → Option ℕ → Option ℕ
unread_before ds d x None = None
unread_before ds d x (Some o) = if_unread d x o (slice_get ds o)

abbrev pub unread_over : List Action → Access → ℕ → Option ℕ → Option UnreadStore
unread_over ds x n None = None
unread_over ds x n (Some o) = unless_lost (record { word = x.address; over = o; stored = n }) (lost_at ds n)

abbrev pub unread_store : List Action → ℕ → Action → Option Access → Option UnreadStore
unread_store ds n d None = None
unread_store ds n d (Some x) = unread_over ds x n (unread_before ds d x (last_before (met x.address) ds n))

abbrev pub unread_in : List Action → ℕ → Option Action → Option UnreadStore
unread_in ds n None = None
unread_in ds n (Some d) = unread_store ds n d (store_of d.access)

-- the unread store that step n stores over
unfoldable pub unread_at : List Action → ℕ → Option UnreadStore
unread_at ds n = unread_in ds n (slice_get ds n)
