-- Lost updates.
use Rattle.std.specs.Prelude.{◌≡◌, ℕ, Bool, false, ◌&&◌, if◌then◌else◌, List, Option, Some, None, slice_get}
use Rattle.run_findings.specs.Actions.{is_store, is_by, read_by, written_or_read_by}
use Rattle.run_findings.specs.Places.{passes, last_before, last_below}
use Rattle.run_findings.specs.Marks.{is_made_of}
use Rattle.run_findings.specs.declared.actions.Access.{Access}
use Rattle.run_findings.specs.declared.actions.Action.{Action}
use Rattle.run_findings.specs.declared.lost.LostUpdate.{LostUpdate}

-- the word into which a STORE stored that found it full
abbrev pub full_store : Option Access → Option ℕ
full_store None = None
full_store (Some x) = if is_store x.op && x.full then Some x.address else None

-- whether in step k the stream of step n, which this is, read this word, and what step n stores was computed from what
-- it read there
abbrev pub is_source : List Action → ℕ → Action → ℕ → ℕ → Bool
is_source ds n d a k = passes (read_by d.stream a) (slice_get ds k) && is_made_of ds k n d

-- In step `stored` a stream stores into a full word. Step `over` is the last one before in which any stream wrote the
-- word or this one read it, and it is another stream's; so that one wrote it. `read` is the last step before `over` in
-- which the storing stream read the word, and from which what it stores was computed.
pub record IsLostUpdate (ds : List Action) (f : LostUpdate) : Type 0 where
  pub storer : Action
  pub stands : slice_get ds f.stored ≡ Some storer
  pub stores : full_store storer.access ≡ Some f.word
  pub last : last_before (written_or_read_by storer.stream f.word) ds f.stored ≡ Some f.over
  pub writer : Action
  pub stood : slice_get ds f.over ≡ Some writer
  pub others : is_by storer.stream writer ≡ false
  pub made : last_below (is_source ds f.stored storer f.word) f.over ≡ Some f.read

-- The same by computing, for the code.

abbrev pub lost_from : ℕ → ℕ → ℕ → Option ℕ → Option LostUpdate
lost_from n a o None = None
lost_from n a o (Some r) = Some (record { word = a; read = r; over = o; stored = n })

abbrev pub unless_own : Action → ℕ → Option Action → Option ℕ
unless_own d o None = None
unless_own d o (Some e) = if is_by d.stream e then None else Some o

-- step o, if there is one and it is not of the stream of this one
abbrev pub other_write : List Action → Action → Option ℕ → Option ℕ
other_write ds d None = None
other_write ds d (Some o) = unless_own d o (slice_get ds o)

abbrev pub lost_over : List Action → ℕ → Action → ℕ → Option ℕ → Option LostUpdate
lost_over ds n d a None = None
lost_over ds n d a (Some o) = lost_from n a o (last_below (is_source ds n d a) o)

abbrev pub lost_store : List Action → ℕ → Action → Option ℕ → Option LostUpdate
lost_store ds n d None = None
lost_store ds n d (Some a) = lost_over ds n d a (other_write ds d (last_before (written_or_read_by d.stream a) ds n))

abbrev pub lost_by : List Action → ℕ → Option Action → Option LostUpdate
lost_by ds n None = None
lost_by ds n (Some d) = lost_store ds n d (full_store d.access)

-- the lost update of step n
unfoldable pub lost_at : List Action → ℕ → Option LostUpdate
lost_at ds n = lost_by ds n (slice_get ds n)
