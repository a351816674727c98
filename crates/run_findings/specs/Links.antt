-- The aid: of each step, the last step before it that met its word.
use Rattle.std.specs.Prelude.{◌≡◌, ℕ, ◌<◌, ◌≤◌, ◌==◌, Bool, true, false, nat_lt, if◌then◌else◌, List, length, Option, Some}
use Rattle.std.specs.Prelude.{None, slice_get, slice_index_or}
use Rattle.std.specs.Map.{lookup}
use Rattle.run_findings.specs.Actions.{op_reads, is_change, is_by}
use Rattle.run_findings.specs.Places.{passes, last_before}
use Rattle.processor.specs.declared.steps.Step.{Step}
use Rattle.run_findings.specs.TornReads.{meets, is_load_of, is_later, word_heard, brings_news}
use Rattle.run_findings.specs.declared.actions.Access.{Access}
use Rattle.run_findings.specs.declared.actions.Action.{Action}
use Rattle.run_findings.specs.declared.links.Latest.{Latest}
use Rattle.run_findings.specs.declared.links.Links.{Links}
use Rattle.run_findings.specs.declared.parting.Meeting.{Meeting}
use Rattle.run_findings.specs.declared.parting.Meeting.TheVariants as meeting

-- the word of an access, where there is one
abbrev pub word_of : Option Access → Option ℕ
word_of None = None
word_of (Some x) = Some x.address

abbrev pub word_in : Option Action → Option ℕ
word_in None = None
word_in (Some d) = word_of d.access

-- the word of step n, where it has one
abbrev pub word_at : List Action → ℕ → Option ℕ
word_at ds n = word_in (slice_get ds n)

abbrev pub link_to : Meeting → List Action → ℕ → Option ℕ → Option ℕ
link_to way ds n None = None
link_to way ds n (Some a) = last_before (meets way a) ds n

-- the last step before step n that met its word so, where it has one
abbrev pub link_at : Meeting → List Action → ℕ → Option ℕ
link_at way ds n = link_to way ds n (word_at ds n)

-- the links of all steps of a run
pub record AreLinks (way : Meeting) (ds : List Action) (links : List (Option ℕ)) : Type 0 where
  pub count : length links ≡ length ds
  pub is : (n : ℕ) (other : Option ℕ) → n < length ds → slice_index_or links n other ≡ link_at way ds n

-- the same of the first steps of a run
pub record AreLinksSoFar (way : Meeting) (ds : List Action) (links : List (Option ℕ)) : Type 0 where
  pub count : length links ≤ length ds
  pub is : (n : ℕ) (other : Option ℕ) → n < length links → slice_index_or links n other ≡ link_at way ds n

-- the last step of a run that writes the word of step n, where it has one
abbrev pub last_write_at : List Action → ℕ → Option ℕ
last_write_at ds n = link_to meeting.Writes ds (length ds) (word_at ds n)

-- these of all steps of a run
pub record AreLastWrites (ds : List Action) (lasts : List (Option ℕ)) : Type 0 where
  pub count : length lasts ≡ length ds
  pub is : (n : ℕ) (other : Option ℕ) → n < length ds → slice_index_or lasts n other ≡ last_write_at ds n

-- whether a step has a word
abbrev pub has_word : ℕ → Action → Bool
has_word a d = is_load_of (word_of d.access) a

abbrev pub same_to : List Action → ℕ → Option ℕ → Option ℕ
same_to ds n None = None
same_to ds n (Some a) = last_before (has_word a) ds n

-- the last step before step n that had its word, where it has one
abbrev pub same_at : List Action → ℕ → Option ℕ
same_at ds n = same_to ds n (word_at ds n)

-- the last step so far that had each word
unfoldable pub latest_of : Latest → ℕ → Option ℕ
latest_of latest a = lookup (λ b. a == b) latest.steps.entries

abbrev pub latest_in : Latest → Option ℕ → Option ℕ
latest_in latest None = None
latest_in latest (Some a) = latest_of latest a

-- whether an access meets its word so
abbrev pub is_met : Meeting → Access → Bool
is_met meeting.Reads x = op_reads x.op
is_met meeting.Writes x = is_change x
is_met meeting.News x = false

-- the same of a step with this access
abbrev pub meets_its_word : Meeting → Option Access → Bool
meets_its_word way None = false
meets_its_word way (Some x) = is_met way x

-- the last step that had word a, where a step has this word
abbrev pub with_step : ℕ → Option ℕ → ℕ → Option ℕ → Option ℕ
with_step a None n before = before
with_step a (Some b) n before = if b == a then Some n else before

-- the links of a run: those by writes and by reads, and the last step that has each word
pub record AreLinksOfRun (ds : List Action) (links : Links) : Type 0 where
  pub writes : AreLinks meeting.Writes ds links.writes.items
  pub reads : AreLinks meeting.Reads ds links.reads.items
  pub latest : (a : ℕ) → latest_of links.latest a ≡ last_before (has_word a) ds (length ds)

-- the later of two steps
abbrev pub later : Option ℕ → Option ℕ → Option ℕ
later None other = other
later (Some m) None = Some m
later (Some m) (Some n) = if nat_lt m n then Some n else Some m

-- whether step n comes after step m, if there is one
abbrev pub is_after : ℕ → Option ℕ → Bool
is_after n None = true
is_after n (Some m) = nat_lt m n

-- the links by writes, and by reads
abbrev pub AreWrites : List Action → List (Option ℕ) → Type 0
AreWrites ds links = AreLinks meeting.Writes ds links

abbrev pub AreReads : List Action → List (Option ℕ) → Type 0
AreReads ds links = AreLinks meeting.Reads ds links

-- whether step m hears of what another stream wrote after step lo
abbrev pub news_in : List Action → Step → ℕ → ℕ → Option Action → Bool
news_in ds t lo m None = false
news_in ds t lo m (Some d) = brings_news ds t lo m (word_heard d.access)

abbrev pub news_at : List Action → Step → ℕ → ℕ → Bool
news_at ds t lo m = news_in ds t lo m (slice_get ds m)

-- a step, if there is one and it is another stream's; else 0
abbrev pub other_step : List Action → Step → Option ℕ → ℕ
other_step ds t None = 0
other_step ds t (Some u) = if passes (is_by t) (slice_get ds u) then 0 else u

-- whether the word of step n is written after it
abbrev pub is_overwritten : List Action → ℕ → Bool
is_overwritten ds n = is_later n (last_write_at ds n)
