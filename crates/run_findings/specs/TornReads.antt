-- Torn reads.
use Rattle.std.specs.Prelude.{◌≡◌, ◌≢◌, ℕ, zero, suc, ◌<◌, ◌==◌, Bool, true, false, not, nat_lt, ◌&&◌, ◌||◌, if◌then◌else◌}
use Rattle.std.specs.Prelude.{List, [], length, Option, Some, None, slice_get}
use Rattle.processor.specs.declared.steps.Step.{Step}
use Rattle.run_findings.specs.Actions.{op_hears, is_load, reads, writes, is_by, writes_by, written_by}
use Rattle.run_findings.specs.Places.{passes, last_before}
use Rattle.run_findings.specs.Pairs.{is_half}
use Rattle.run_findings.specs.Found.{found_to, lists_to}
use Rattle.run_findings.specs.declared.actions.Access.{Access}
use Rattle.run_findings.specs.declared.actions.Action.{Action}
use Rattle.run_findings.specs.declared.glimpse.Glimpse.{Glimpse}
use Rattle.run_findings.specs.declared.torn.TornRead.{TornRead}
use Rattle.run_findings.specs.declared.parting.Meeting.{Meeting}
use Rattle.run_findings.specs.declared.parting.Meeting.TheVariants as meeting

-- the word that a LOAD read, if it did
abbrev pub word_loaded : Option Access → Option ℕ
word_loaded None = None
word_loaded (Some x) = if is_load x.op then Some x.address else None

abbrev pub is_load_of : Option ℕ → ℕ → Bool
is_load_of None a = false
is_load_of (Some b) a = b == a

-- whether a step of a stream read a word by LOAD
abbrev pub loaded_by : Step → ℕ → Action → Bool
loaded_by t a d = is_by t d && is_load_of (word_loaded d.access) a

-- the word of which an access may bring news, if it may
abbrev pub word_heard : Option Access → Option ℕ
word_heard None = None
word_heard (Some x) = if op_hears x.op x.full then Some x.address else None

-- the full word of which an access changed the value, if it did: what stands in an empty word nobody may read
abbrev pub word_changed : Option Access → Option ℕ
word_changed None = None
word_changed (Some x) = if not (x.before == x.after) && x.full then Some x.address else None

-- What lies between two steps of a stream that belong together.

-- whether step u, if there is one, comes after step lo
abbrev pub is_later : ℕ → Option ℕ → Bool
is_later lo None = false
is_later lo (Some u) = nat_lt lo u

-- whether step u, if there is one, comes after step lo and is of another stream
abbrev pub is_newer : List Action → Step → ℕ → Option ℕ → Bool
is_newer ds t lo None = false
is_newer ds t lo (Some u) = nat_lt lo u && not (passes (is_by t) (slice_get ds u))

-- whether step m, which hears of this word, hears of what another stream wrote after step lo
abbrev pub brings_news : List Action → Step → ℕ → ℕ → Option ℕ → Bool
brings_news ds t lo m None = false
brings_news ds t lo m (Some a) = is_newer ds t lo (last_before (writes a) ds m)

-- whether a step reads, or writes, a word; what is parted by news alone is met by none
abbrev pub meets : Meeting → ℕ → Action → Bool
meets meeting.Reads a d = reads a d
meets meeting.Writes a d = writes a d
meets meeting.News a d = false

-- whether step m, which this is, parts two reads, or two writes, of words a and b by stream t, of which the first is in
-- step lo: it is of the stream, and reads, or writes, one of the words too, or brings the stream news since that step
abbrev pub parts : List Action → Meeting → Step → ℕ → ℕ → ℕ → ℕ → Action → Bool
parts ds way t a b lo m d = is_by t d && (meets way a d || meets way b d || brings_news ds t lo m (word_heard d.access))

-- whether a step between lo and hi passes a test
abbrev pub any_between : (ℕ → Bool) → ℕ → ℕ → Bool
any_between test lo zero = false
any_between test lo (suc n) = (nat_lt lo n && test n) || any_between test lo n

abbrev pub parts_at : List Action → Meeting → Step → ℕ → ℕ → ℕ → ℕ → Bool
parts_at ds way t a b lo m = passes (parts ds way t a b lo m) (slice_get ds m)

-- whether steps m and n of a stream are parted by one between them
abbrev pub are_parted : List Action → Meeting → Step → ℕ → ℕ → ℕ → ℕ → Bool
are_parted ds way t a b m n =
    if nat_lt m n then any_between (parts_at ds way t a b m) m n else any_between (parts_at ds way t a b n) n m

-- whether the reader, t, let the writer, w, have the words between its reads in the steps i and j: it wrote some word
-- there, and the writer, before its write in step k, heard of what another stream wrote after step i
abbrev pub lets_go : List Action → Step → Step → ℕ → ℕ → ℕ → ℕ → ℕ → Bool
lets_go ds t w a b i j k =
    is_later i (last_before (writes_by t) ds j) && are_parted ds meeting.News w a b i k

-- whether the write of word a in step k is of a later round than its change of word b in step l: the writer wrote word a
-- between the read in step i and step l already
abbrev pub is_of_later_round : List Action → Step → ℕ → ℕ → ℕ → ℕ → Bool
is_of_later_round ds w a i k l = nat_lt l k && is_later i (last_before (written_by w a) ds l)

-- A stream reads two words by LOAD, `stale` in step `stale_read` and `fresh` in step `fresh_read`; another stream changes
-- both words, in the steps `stale_write` and `fresh_write`. The first word was read before it was written, and the second
-- has the value that was written. Neither the two reads nor the two writes are parted; the reader did not let the words
-- go between its reads, and the writes are of one round. The pair was never there, or is used as one.
pub record IsTornRead (ds : List Action) (f : TornRead) : Type 0 where
  pub reader : Action
  pub writer : Action
  pub stands_fresh_read : slice_get ds f.fresh_read ≡ Some reader
  pub reads_fresh : word_loaded reader.access ≡ Some f.fresh
  pub seen : last_before (writes f.fresh) ds f.fresh_read ≡ Some f.fresh_write
  pub stands_fresh_write : slice_get ds f.fresh_write ≡ Some writer
  pub changes_fresh : word_changed writer.access ≡ Some f.fresh
  pub others : is_by reader.stream writer ≡ false
  pub other_write : Action
  pub stands_stale_write : slice_get ds f.stale_write ≡ Some other_write
  pub changes_stale : word_changed other_write.access ≡ Some f.stale
  pub by_writer : is_by writer.stream other_write ≡ true
  pub other_read : Action
  pub stands_stale_read : slice_get ds f.stale_read ≡ Some other_read
  pub reads_stale : loaded_by reader.stream f.stale other_read ≡ true
  pub two_words : f.stale ≢ f.fresh
  pub unseen : f.stale_read < f.stale_write
  pub one_change : are_parted ds meeting.Writes writer.stream f.stale f.fresh f.stale_write f.fresh_write ≡ false
  pub one_look : are_parted ds meeting.Reads reader.stream f.stale f.fresh f.stale_read f.fresh_read ≡ false
  pub kept :
      lets_go ds reader.stream writer.stream f.stale f.fresh f.stale_read f.fresh_read f.stale_write ≡ false
  pub one_round : is_of_later_round ds writer.stream f.stale f.stale_read f.stale_write f.fresh_write ≡ false
  pub half : is_half ds reader.stream f.stale f.fresh f.stale_read f.fresh_read ≡ true

-- The same by computing, in the order of `fresh_read`, then of `stale_write`, then of `stale_read`.

-- whether the read of word a in step i, which the glimpse's writer wrote in step k, makes a pair that is torn
abbrev pub is_torn_pair : List Action → Glimpse → ℕ → ℕ → ℕ → Bool
is_torn_pair ds g a k i =
    not (is_of_later_round ds g.writer a i k g.fresh_write)
    && (not (lets_go ds g.reader g.writer a g.fresh i g.fresh_read k) && is_half ds g.reader a g.fresh i g.fresh_read)

-- this read of the other word with this write of it, if it is torn
unfoldable pub torn_by_read : List Action → Glimpse → ℕ → ℕ → ℕ → Option TornRead
torn_by_read ds g a k i =
    if passes (loaded_by g.reader a) (slice_get ds i)
    && (nat_lt i k && (not (are_parted ds meeting.Reads g.reader a g.fresh i g.fresh_read) && is_torn_pair ds g a k i))
    then Some (record {
      stale = a;
      fresh = g.fresh;
      stale_read = i;
      fresh_read = g.fresh_read;
      stale_write = k;
      fresh_write = g.fresh_write;
    })
    else None

-- whether a step k of this stream, which changed this word, belongs to the change
abbrev pub is_other_half : List Action → Glimpse → ℕ → Step → ℕ → Bool
is_other_half ds g a t k =
    (t.p == g.writer.p && t.s == g.writer.s)
    && (not (a == g.fresh) && not (are_parted ds meeting.Writes g.writer a g.fresh k g.fresh_write))

abbrev pub half_by : List Action → Glimpse → ℕ → Step → Option ℕ → Option ℕ
half_by ds g k t None = None
half_by ds g k t (Some a) = if is_other_half ds g a t k then Some a else None

abbrev pub half_in : List Action → Glimpse → ℕ → Option Action → Option ℕ
half_in ds g k None = None
half_in ds g k (Some d) = half_by ds g k d.stream (word_changed d.access)

-- the word that step k changed, where that belongs to the change
unfoldable pub other_half : List Action → Glimpse → ℕ → Option ℕ
other_half ds g k = half_in ds g k (slice_get ds k)

abbrev pub torn_by_word : List Action → Glimpse → ℕ → Option ℕ → List TornRead
torn_by_word ds g k None = []
torn_by_word ds g k (Some a) = found_to (torn_by_read ds g a k) (length ds)

-- the reads that step k tears
unfoldable pub torn_by_write : List Action → Glimpse → ℕ → List TornRead
torn_by_write ds g k = torn_by_word ds g k (other_half ds g k)

-- what step j, which this is, sees of the step e that wrote the word, which was step l
abbrev pub glimpse_between : Action → ℕ → ℕ → ℕ → Action → Glimpse
glimpse_between d j b l e =
    record { reader = d.stream; writer = e.stream; fresh = b; fresh_read = j; fresh_write = l }

-- whether it changed that word, and is of another stream
abbrev pub is_change_of : ℕ → Option ℕ → Bool
is_change_of b None = false
is_change_of b (Some changed) = changed == b

abbrev pub glimpse_of : Action → ℕ → ℕ → ℕ → Option Action → Option Glimpse
glimpse_of d j b l None = None
glimpse_of d j b l (Some e) =
    if is_change_of b (word_changed e.access) && not (is_by d.stream e) then Some (glimpse_between d j b l e) else None

abbrev pub glimpse_from : List Action → Action → ℕ → ℕ → Option ℕ → Option Glimpse
glimpse_from ds d j b None = None
glimpse_from ds d j b (Some l) = glimpse_of d j b l (slice_get ds l)

abbrev pub glimpse_word : List Action → Action → ℕ → Option ℕ → Option Glimpse
glimpse_word ds d j None = None
glimpse_word ds d j (Some b) = glimpse_from ds d j b (last_before (writes b) ds j)

abbrev pub glimpse_step : List Action → ℕ → Option Action → Option Glimpse
glimpse_step ds j None = None
glimpse_step ds j (Some d) = glimpse_word ds d j (word_loaded d.access)

-- what step j sees of another stream's change, where it reads the value of a word that another stream changed
unfoldable pub glimpse_at : List Action → ℕ → Option Glimpse
glimpse_at ds j = glimpse_step ds j (slice_get ds j)

abbrev pub torn_in_glimpse : List Action → Option Glimpse → List TornRead
torn_in_glimpse ds None = []
torn_in_glimpse ds (Some g) = lists_to (torn_by_write ds g) (length ds)

-- the torn reads of which step j is the second
abbrev pub torn_at : List Action → ℕ → List TornRead
torn_at ds j = torn_in_glimpse ds (glimpse_at ds j)

-- all of a run
abbrev pub torn_reads : List Action → List TornRead
torn_reads ds = lists_to (torn_at ds) (length ds)
