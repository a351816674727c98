-- Sets of steps that meet no step of others in any word, by tables of what others may still ask for.
use Rattle.std.specs.Prelude.{◌≡◌, ◌⊎◌, ℕ, Bool, true, false, List, [], Some, slice_index_or}
use Rattle.std.specs.List.{Contains}
use Rattle.insn_word.specs.declared.profiles.Profile.{Profile}
use Rattle.tag_memory.specs.Unforwarded.{IsUnforwarded}
use Rattle.tag_memory.specs.declared.requests.Request.{Request}
use Rattle.tag_memory.specs.declared.requests.Reply.{Reply}
use Rattle.tag_memory.specs.declared.requests.Reply.TheVariants as reply
use Rattle.image_file.specs.ImageValue.{ImageValue}
use Rattle.stream_core.specs.Streams.{StreamValue}
use Rattle.stream_core.specs.declared.steps.Outcome.TheVariants as outcome
use Rattle.processor.specs.Records.{is_running}
use Rattle.processor.specs.World.{World, outcome_of}
use Rattle.processor.specs.declared.steps.Step.{Step}
use Rattle.local_steps.specs.SettledEndings.{stream_in}
use Rattle.touched_words.specs.TouchTables.{TouchValue}
use Rattle.touched_words.specs.ClosedTables.{is_quiet_add, IsClosedTable}
use Rattle.touched_words.specs.Standing.{IsStanding, IsPassedFrom}
use Rattle.commuting_requests.specs.RequestSteps.{IsRequestStep}
use Rattle.first_sets.specs.UnreadLoads.{AreUnreadPlaces}

-- the table by which no place is closed
abbrev pub no_table : TouchValue
no_table = record { words = []; closed = []; known = []; touches = []; changes = []; uses = []; unread = [] }

-- the table of a processor; where there is none, no place is closed
abbrev pub table_at : List TouchValue → ℕ → TouchValue
table_at tables p = slice_index_or tables p no_table

-- The stream does not run, or stands at a closed place of its processor's table, from where on whatever it asks for passes
-- the request, which is an add that loads what nobody reads if `quiet` says so.
abbrev pub KeepsOff : List TouchValue → World → Step → Bool → Request → Type 0
KeepsOff tables w u quiet q =
    (is_running (stream_in w u.p u.s) ≡ false)
    ⊎ (IsStanding (table_at tables u.p) (stream_in w u.p u.s)
    × IsPassedFrom (table_at tables u.p) (stream_in w u.p u.s).ssw.pc quiet q)

-- The step makes a request and asks for no stream, and each stream outside of the set keeps off the request.
pub record IsMember (image : ImageValue) (tables : List TouchValue) (w : World) (set : List Step) (t : Step) : Type 0 where
  pub stream : StreamValue
  pub request : Request
  pub makes : IsRequestStep image w t stream (Some request)
  pub apart : (u : Step) → ¬ (Contains set u)
      → KeepsOff tables w u (is_quiet_add (table_at tables t.p) stream.ssw.pc request) request

-- whether a reply is that the reference is blocked
abbrev pub is_blocked : Reply → Bool
is_blocked (reply.Done n) = false
is_blocked (reply.Blocked a) = true
is_blocked (reply.Trap k a) = false

-- The tables are closed, and nobody reads what is loaded where they say so.
pub record AreTouchTables (named : ℕ → Type 0) (live : ℕ → ℕ → Type 0) (profile : Profile) (program : List ℕ)
    (tables : List TouchValue) : Type 0 where
  pub closed : (p : ℕ) → IsClosedTable profile program (table_at tables p)
  pub unread : (p : ℕ) → AreUnreadPlaces named live profile program (table_at tables p).unread

-- Each step of the set is such a one; no word has the forward bit; and one of the steps is not Blocked.
pub record IsApartSet (image : ImageValue) (tables : List TouchValue) (w : World) (set : List Step) : Type 0 where
  pub unforwarded : IsUnforwarded w.memory
  pub members : (t : Step) → Contains set t → IsMember image tables w set t
  pub key : Step
  pub there : Contains set key
  pub goes : ¬ (outcome_of image w key ≡ outcome.Blocked)
