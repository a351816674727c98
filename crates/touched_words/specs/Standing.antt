-- Streams that stand at closed places, and what such a stream may still ask for.
use Rattle.std.specs.Prelude.{◌≡◌, ◌⊎◌, ◌≢◌, ℕ, ◌/◌, Bool, true, false, IsTrue, Some, slice_get}
use Rattle.tag_memory.specs.Address.{address_of}
use Rattle.tag_memory.specs.ReadRequests.{may_change}
use Rattle.tag_memory.specs.declared.requests.Request.{Request}
use Rattle.stream_core.specs.Registers.{target_at}
use Rattle.stream_core.specs.Streams.{StreamValue, no_handler}
use Rattle.processor.specs.Records.{is_running}
use Rattle.touched_words.specs.TouchTables.{TouchValue, is_closed, known_at, is_marked, marks_at, HoldsKnown}
use Rattle.touched_words.specs.ClosedTables.{AreAmong}

-- The stream stands at a closed place, its registers hold what is known there, and its t0 names no handler.
pub record IsStanding (v : TouchValue) (s : StreamValue) : Type 0 where
  pub place : IsTrue (is_closed v.closed s.ssw.pc)
  pub known : HoldsKnown (known_at v.known s.ssw.pc) s.registers
  pub bare : (target_at s.targets 0).pc ≡ no_handler

-- It stands so, at a place from which all that may be asked for may be from place k on.
pub record IsStandingFrom (v : TouchValue) (k : ℕ) (s : StreamValue) : Type 0 where
  pub stands : IsStanding v s
  pub touches : AreAmong (marks_at v.touches s.ssw.pc) (marks_at v.touches k)
  pub changes : AreAmong (marks_at v.changes s.ssw.pc) (marks_at v.changes k)
  pub uses : AreAmong (marks_at v.uses s.ssw.pc) (marks_at v.uses k)

-- that holds of the stream if it runs
abbrev pub IsHeldFrom : TouchValue → ℕ → StreamValue → Type 0
IsHeldFrom v k s = (is_running s ≡ false) ⊎ IsStandingFrom v k s

-- Whoever asks for word n from place k on only reads it, and the request does too; or both only add to it, and load what
-- nobody reads: `changing` says whether the request may change its word, `quiet` whether it is such an add.
abbrev pub IsShared : TouchValue → ℕ → ℕ → Bool → Bool → Type 0
IsShared v k n changing quiet =
    ((changing ≡ false) × (is_marked (marks_at v.changes k) n ≡ false))
    ⊎ ((quiet ≡ true) × (is_marked (marks_at v.uses k) n ≡ false))

-- Whoever asks from place k on meets the request at no word, or both share the word.
abbrev pub IsPassedFrom : TouchValue → ℕ → Bool → Request → Type 0
IsPassedFrom v k quiet q =
    (n : ℕ) → IsTrue (is_marked (marks_at v.touches k) n)
    → (slice_get v.words n ≢ Some (address_of q.pointer / 8)) ⊎ IsShared v k n (may_change q.op q.acc) quiet
