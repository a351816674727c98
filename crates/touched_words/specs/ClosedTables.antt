-- When a table is closed: what it says of a closed place is so wherever a stream goes on from there.
use Rattle.std.specs.Prelude.{◌≡◌, ◌⊎◌, ℕ, ◌/◌, Bool, true, false, ◌&&◌, List, Some, IsTrue, slice_get}
use Rattle.insn_word.specs.declared.profiles.Profile.{Profile}
use Rattle.insn_word.specs.declared.insn.Insn.{Insn}
use Rattle.tag_memory.specs.Address.{address_of}
use Rattle.tag_memory.specs.ReadRequests.{may_change}
use Rattle.tag_memory.specs.Unforwarded.{sets_forward}
use Rattle.tag_memory.specs.Adds.{is_add}
use Rattle.tag_memory.specs.declared.requests.Request.{Request}
use Rattle.stream_core.specs.Streams.{StreamValue}
use Rattle.stream_core.specs.Effects.{request_of}
use Rattle.stream_core.specs.StreamRow.{fetch_word}
use Rattle.stream_core.specs.declared.steps.Fetch.TheVariants as fetch
use Rattle.program_flow.specs.Agreement.{registers_over}
use Rattle.program_flow.specs.Flow.{GoesTo}
use Rattle.local_steps.specs.CalmPlaces.{is_calm}
use Rattle.touched_words.specs.TouchTables.{TouchValue, is_closed, known_at, is_marked, marks_at, is_unread_at, HoldsKnown}

-- whether a request of the instruction at place k is an add that loads what nobody reads
abbrev pub is_quiet_add : TouchValue → ℕ → Request → Bool
is_quiet_add v k q = is_add q && is_unread_at v k

-- The request is of a word that is marked at place k, marked as changed if it may change it, and marked as used unless it
-- is an add that loads what nobody reads; and it sets no forward bit.
pub record IsNamed (v : TouchValue) (k : ℕ) (q : Request) : Type 0 where
  pub n : ℕ
  pub word : slice_get v.words n ≡ Some (address_of q.pointer / 8)
  pub touched : IsTrue (is_marked (marks_at v.touches k) n)
  pub changed : may_change q.op q.acc ≡ true → IsTrue (is_marked (marks_at v.changes k) n)
  pub used : (is_quiet_add v k q ≡ true) ⊎ IsTrue (is_marked (marks_at v.uses k) n)
  pub unforwarded : sets_forward q.op q.value ≡ false

-- the word is marked at place k, marked as changed if it is, and marked as used unless it is added to quietly
pub record IsMarkedWord (v : TouchValue) (k word : ℕ) (changes quiet : Bool) : Type 0 where
  pub n : ℕ
  pub is : slice_get v.words n ≡ Some word
  pub touched : IsTrue (is_marked (marks_at v.touches k) n)
  pub changed : changes ≡ true → IsTrue (is_marked (marks_at v.changes k) n)
  pub used : (quiet ≡ true) ⊎ IsTrue (is_marked (marks_at v.uses k) n)

-- each word that is marked in one row is in the other
abbrev pub AreAmong : List Bool → List Bool → Type 0
AreAmong some all = (n : ℕ) → IsTrue (is_marked some n) → IsTrue (is_marked all n)

-- An instruction at place k leads to place j, which is closed: registers hold there what is known there, and all that may
-- be asked for from there on may be from place k on.
pub record LeadsOn (v : TouchValue) (i : Insn) (k j : ℕ) : Type 0 where
  pub closed : IsTrue (is_closed v.closed j)
  pub known : (s : StreamValue) (value grant : ℕ) → HoldsKnown (known_at v.known k) s.registers
      → HoldsKnown (known_at v.known j) (registers_over s i value grant s.registers)
  pub touches : AreAmong (marks_at v.touches j) (marks_at v.touches k)
  pub changes : AreAmong (marks_at v.changes j) (marks_at v.changes k)
  pub uses : AreAmong (marks_at v.uses j) (marks_at v.uses k)

-- The instruction at place k asks for no stream, leaves t0, makes requests that are named there, and leads on alone.
pub record IsClosedAt (v : TouchValue) (k : ℕ) (i : Insn) : Type 0 where
  pub calm : IsTrue (is_calm i)
  pub asks : (s : StreamValue) (q : Request) → HoldsKnown (known_at v.known k) s.registers → request_of s i ≡ Some q
      → IsNamed v k q
  pub goes : (j : ℕ) → GoesTo i k j → LeadsOn v i k j

-- at each closed place of the program such an instruction stands
abbrev pub IsClosedTable : Profile → List ℕ → TouchValue → Type 0
IsClosedTable profile program v =
    (k : ℕ) → IsTrue (is_closed v.closed k)
    → (i : Insn) × ((fetch_word profile (slice_get program k) ≡ fetch.Instruction i) × IsClosedAt v k i)
