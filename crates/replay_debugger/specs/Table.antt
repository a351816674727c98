-- What a session answers to each command, and where it refuses one.
use Rattle.std.specs.Prelude.{◌≡◌, ℕ, zero, suc, ◌+◌, ◌^◌, ◌&&◌, Bool, true, false, nat_lt, nat_le, if◌then◌else◌}
use Rattle.std.specs.Prelude.{List, [], ◌∷◌, length, Option, Some, None, is_some, Result, Ok, Err}
use Rattle.tag_memory.specs.Cell.{Cell}
use Rattle.tag_memory.specs.Storage.{TaggedMemory, cell_at}
use Rattle.debug_commands.specs.declared.answers.Answer.{Answer}
use Rattle.debug_commands.specs.declared.answers.Answer.TheVariants as answer
use Rattle.debug_commands.specs.declared.answers.Why.{Why}
use Rattle.debug_commands.specs.declared.answers.Why.TheVariants.{Moved, Stop, End, Start}
use Rattle.debug_commands.specs.declared.commands.Command.{Command}
use Rattle.debug_commands.specs.declared.commands.Command.TheVariants.{Forward, Continue, Back, Go, Break}
use Rattle.debug_commands.specs.declared.commands.Command.TheVariants.{Watch, WatchTags, Delete, Registers, Show}
use Rattle.debug_commands.specs.declared.debug_fault.DebugFault.{DebugFault}
use Rattle.debug_commands.specs.declared.debug_fault.DebugFault.TheVariants as fault
use Rattle.replay_debugger.specs.declared.points.Point.{Point}
use Rattle.replay_debugger.specs.declared.points.Point.TheVariants as point
use Rattle.replay_debugger.specs.Points.{point_at, AddsPoint, TakesPoint}
use Rattle.replay_debugger.specs.Sessions.{SessionValue, session_world}
use Rattle.replay_debugger.specs.Stops.{stream_named, is_stop, IsLeastAbove, NoneAbove, IsGreatestBelow, NoneBelow}

-- Words of the memory.

-- the word at a byte address; none where it is missing. No address has more than 64 bits.
abbrev pub shown_word : TaggedMemory → ℕ → Option Cell
shown_word m a = if nat_lt a (2 ^ 64) then cell_at m a else None

-- a word and its address
abbrev pub with_address : ℕ → Option Cell → Option (ℕ × Cell)
with_address a None = None
with_address a (Some c) = Some (a, c)

-- a word before others, where there are all
abbrev pub onto_words : ℕ → Option Cell → Option (List (ℕ × Cell)) → Option (List (ℕ × Cell))
onto_words a (Some c) (Some ws) = Some ((a, c) ∷ ws)
onto_words a (Some c) None = None
onto_words a None ws = None

-- so many words from a byte address on, each with its address; none where one of them is missing
abbrev pub words_from : TaggedMemory → ℕ → ℕ → Option (List (ℕ × Cell))
words_from m a zero = Some []
words_from m a (suc n) = onto_words a (shown_word m a) (words_from m (a + 8) n)

-- Moves.

-- the session goes to a position, and all else stays
pub record GoesTo (old : SessionValue) (k : ℕ) (why : Why) (result : Answer) (new : SessionValue) : Type 0 where
  pub says : result ≡ answer.At k why
  pub goes : new ≡ record old { position = k }

-- the stops of a session
abbrev pub stops_of : SessionValue → ℕ → Bool
stops_of s k = is_stop s.image s.schedule s.points k

-- where `c` goes: to the least stop above, else to the end
abbrev pub ContinuesTo : SessionValue → ℕ → Why → Type 0
ContinuesTo s k Stop = IsLeastAbove (stops_of s) s.position (length s.schedule) k
ContinuesTo s k End = (k ≡ length s.schedule) × NoneAbove (stops_of s) s.position (length s.schedule)
ContinuesTo s k Moved = ⊥
ContinuesTo s k Start = ⊥

-- where `back` goes: to the greatest stop below, else to the start
abbrev pub GoesBackTo : SessionValue → ℕ → Why → Type 0
GoesBackTo s k Stop = IsGreatestBelow (stops_of s) s.position k
GoesBackTo s k Start = (k ≡ 0) × NoneBelow (stops_of s) s.position
GoesBackTo s k Moved = ⊥
GoesBackTo s k End = ⊥

-- Points.

-- the session has this point more, under the key that it answers, and all else stays
pub record Adds (old : SessionValue) (p : Point) (result : Answer) (new : SessionValue) : Type 0 where
  pub key : ℕ
  pub says : result ≡ answer.Point key
  pub adds : AddsPoint old.points new.points key p
  pub kept : new ≡ record old { points = new.points }

-- the session has the point of this key less, and all else stays
pub record Takes (old : SessionValue) (key : ℕ) (result : Answer) (new : SessionValue) : Type 0 where
  pub says : result ≡ answer.Gone key
  pub takes : TakesPoint old.points new.points key
  pub kept : new ≡ record old { points = new.points }

-- The table: the answer of each command, and the session after it.

-- the answer to each command, and the session after it
abbrev pub IsAnswerTo : SessionValue → Command → Answer → SessionValue → Type 0
IsAnswerTo old (Forward n) result new = GoesTo old (old.position + n) Moved result new
IsAnswerTo old Continue result new = (k : ℕ) × (why : Why) × ContinuesTo old k why × GoesTo old k why result new
IsAnswerTo old Back result new = (k : ℕ) × (why : Why) × GoesBackTo old k why × GoesTo old k why result new
IsAnswerTo old (Go k) result new = GoesTo old k Moved result new
IsAnswerTo old (Break p pc) result new = Adds old (point.Break p pc) result new
IsAnswerTo old (Watch a) result new = Adds old (point.Watch a) result new
IsAnswerTo old (WatchTags a) result new = Adds old (point.WatchTags a) result new
IsAnswerTo old (Delete n) result new = Takes old n result new
IsAnswerTo old (Registers p s) result new =
    (result ≡ answer.Stream (stream_named (session_world old) (record { p = p; s = s }))) × (new ≡ old)
IsAnswerTo old (Show a n) result new =
    (ws : List (ℕ × Cell)) × (words_from (session_world old).memory a n ≡ Some ws) × (result ≡ answer.Words ws)
    × (new ≡ old)

-- Refusals.

-- a fault unless a test holds
abbrev pub refused_unless : Bool → DebugFault → Option DebugFault
refused_unless test f = if test then None else Some f

-- the fault of a command, want of memory aside
abbrev pub refusal_of : SessionValue → Command → Option DebugFault
refusal_of s (Forward n) = refused_unless (nat_le (s.position + n) (length s.schedule)) fault.Past
refusal_of s Continue = None
refusal_of s Back = None
refusal_of s (Go k) = refused_unless (nat_le k (length s.schedule)) fault.Past
refusal_of s (Break p pc) = refused_unless (nat_lt p (length s.image.entries)) fault.NoSuchStream
refusal_of s (Watch a) = refused_unless (is_some (cell_at (session_world s).memory a)) fault.NoSuchWord
refusal_of s (WatchTags a) = refused_unless (is_some (cell_at (session_world s).memory a)) fault.NoSuchWord
refusal_of s (Delete n) = refused_unless (is_some (point_at s.points n)) fault.NoSuchPoint
refusal_of s (Registers p q) =
    refused_unless (nat_lt p (length s.image.entries) && nat_lt q s.image.slim) fault.NoSuchStream
refusal_of s (Show a n) =
    if nat_le 1 n && nat_le n 64
    then refused_unless (is_some (words_from (session_world s).memory a n)) fault.NoSuchWord
    else Some fault.Syntax

-- want of memory is answered only where the command has no fault
abbrev pub named_fault : DebugFault → Option DebugFault
named_fault fault.Syntax = Some fault.Syntax
named_fault fault.NoSuchStream = Some fault.NoSuchStream
named_fault fault.NoSuchWord = Some fault.NoSuchWord
named_fault fault.NoSuchPoint = Some fault.NoSuchPoint
named_fault fault.Past = Some fault.Past
named_fault fault.NoMemory = None

-- whether a command takes memory: `r` and `d` take none
abbrev pub takes_memory : Command → Bool
takes_memory (Forward n) = true
takes_memory Continue = true
takes_memory Back = true
takes_memory (Go k) = true
takes_memory (Break p pc) = true
takes_memory (Watch a) = true
takes_memory (WatchTags a) = true
takes_memory (Delete n) = false
takes_memory (Registers p s) = false
takes_memory (Show a n) = true

-- The result of a command. A refusal leaves the session as it was, and want of memory is told of those commands alone
-- that take some.
abbrev pub IsResultOf : SessionValue → Command → Result Answer DebugFault → SessionValue → Type 0
IsResultOf old command (Ok result) new = (refusal_of old command ≡ None) × IsAnswerTo old command result new
IsResultOf old command (Err f) new =
    (refusal_of old command ≡ named_fault f) × (new ≡ old) × (f ≡ fault.NoMemory → takes_memory command ≡ true)
