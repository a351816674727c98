-- What is compared: for each place an entry of what it had and what it has, of which those are kept that differ.
use Rattle.std.specs.Prelude.{◌≡◌, ◌≢◌, ℕ, zero, suc, ◌+◌, ◌⊎◌, List, [], ◌∷◌, ◌++◌, Option, Some, None}
use Rattle.std.specs.Prelude.{Bool, false, nat_lt, if◌then◌else◌}
use Rattle.std.specs.List.{position}
use Rattle.std.specs.Option.{option_map}
use Rattle.tag_memory.specs.Cell.{Cell}
use Rattle.tag_memory.specs.Storage.{TaggedMemory, cell_at}
use Rattle.stream_core.specs.Streams.{StreamValue, idle}
use Rattle.machine.specs.Processor.Processors.{ProcessorValue, is_idle}
use Rattle.machine.specs.Processor.World.{World, counts_of}
use Rattle.machine.specs.ProcessorTypes.Step.{Step}
use Rattle.step_views.specs.declared.places.StreamPart.{StreamPart}
use Rattle.step_views.specs.declared.places.StreamPart.TheVariants as part
use Rattle.step_views.specs.declared.places.Place.{Place}
use Rattle.step_views.specs.declared.places.Place.TheVariants as place
use Rattle.step_views.specs.declared.places.Content.{Content}
use Rattle.step_views.specs.declared.places.Content.TheVariants as content
use Rattle.step_views.specs.declared.places.Change.{Change}
use Rattle.step_views.specs.declared.seen.Seen.{Seen}
use Rattle.step_views.specs.declared.step_views.Reference.{Reference}
use Rattle.step_views.specs.Places.{part_content, tags_content, used_stream}

-- the entry of a place
abbrev pub entry : Place → Content → Content → Change
entry x b a = record { place = x; before = b; after = a }

-- a list of changes, and the same after an entry is kept, if it is one
abbrev pub IsKept : Change → List Change → List Change → Type 0
IsKept c old new = ((c.before ≡ c.after) × (new ≡ old)) ⊎ ((c.before ≢ c.after) × (new ≡ old ++ c ∷ []))

-- the same after each of these entries, in their order
abbrev pub AreKept : List Change → List Change → List Change → Type 0
AreKept [] old new = new ≡ old
AreKept (c ∷ cs) old new = (next : List Change) × IsKept c old next × AreKept cs next new

-- The entries of a stream.

-- of a part, where it is there before and after
abbrev pub part_entry : Place → Option Content → Option Content → List Change
part_entry x None after = []
part_entry x (Some b) None = []
part_entry x (Some b) (Some a) = entry x b a ∷ []

-- of each of these parts of the stream, which has these values before and after
abbrev pub part_entries : ℕ → ℕ → StreamValue → StreamValue → List StreamPart → List Change
part_entries p s b a [] = []
part_entries p s b a (x ∷ xs) =
    part_entry (place.Stream p s x) (part_content b x) (part_content a x) ++ part_entries p s b a xs

-- the parts of a stream beside its registers
abbrev pub state_parts : List StreamPart
state_parts =
    part.Pc ∷ part.Codes ∷ part.Mask ∷ part.InTrap ∷ part.TrapRegister ∷ part.Retries ∷ part.Status ∷ []

-- so many registers, from the one of this number on
unfoldable pub register_parts : ℕ → ℕ → List StreamPart
register_parts zero r = []
register_parts (suc n) r = part.Register r ∷ register_parts n (r + 1)

-- so many target registers, from the one of this number on
unfoldable pub target_parts : ℕ → ℕ → List StreamPart
target_parts zero t = []
target_parts (suc n) t = part.Target t ∷ target_parts n (t + 1)

-- of all parts
unfoldable pub stream_entries : ℕ → ℕ → StreamValue → StreamValue → List Change
stream_entries p s b a =
    part_entries p s b a state_parts ++ part_entries p s b a (register_parts 32 0)
    ++ part_entries p s b a (target_parts 8 0)

-- the entries of a processor's counts, those that are current first
abbrev pub count_entries : ℕ → ℕ × ℕ → ℕ × ℕ → List Change
count_entries p b a =
    entry (place.Current p) (content.Number b.0) (content.Number a.0)
    ∷ entry (place.Reserved p) (content.Number b.1) (content.Number a.1)
    ∷ []

-- the entries of a word
abbrev pub word_entries : ℕ → Cell → Cell → List Change
word_entries at b a =
    entry (place.Value at) (content.Number b.value) (content.Number a.value)
    ∷ entry (place.Tags at) (tags_content b) (tags_content a)
    ∷ []

-- What is seen before a step.

-- the lowest idle stream of a processor
abbrev pub idle_in : Option ProcessorValue → Option ℕ
idle_in None = None
idle_in (Some proc) = position is_idle proc.streams

-- the stream that a CREATE would start; none where all reserved ones are in use
abbrev pub free_in : Option ProcessorValue → Option ℕ
free_in None = None
free_in (Some proc) = if nat_lt proc.scur proc.sres then position is_idle proc.streams else None

-- the word at which a reference ends, with its address
abbrev pub word_seen : TaggedMemory → Option Reference → Option (ℕ × Cell)
word_seen m None = None
word_seen m (Some r) = option_map (λ (c : Cell). (r.address, c)) (cell_at m r.address)

-- What is compared with the world after the step.

-- a stream that is there before and after
abbrev pub stream_compared : ℕ → ℕ → Option StreamValue → Option StreamValue → List Change
stream_compared p s None after = []
stream_compared p s (Some b) None = []
stream_compared p s (Some b) (Some a) = stream_entries p s b a

-- whether more streams are current
abbrev pub has_grown : Option (ℕ × ℕ) → Option (ℕ × ℕ) → Bool
has_grown None after = false
has_grown (Some b) None = false
has_grown (Some b) (Some a) = nat_lt b.0 a.0

-- the stream that was free
abbrev pub free_compared : ℕ → Option ℕ → World → List Change
free_compared p None w = []
free_compared p (Some s) w = stream_compared p s (Some idle) (used_stream w p s)

-- the same where it was started
abbrev pub started_compared : ℕ → Option ℕ → Option (ℕ × ℕ) → World → List Change
started_compared p free counts w = if has_grown counts (counts_of w p) then free_compared p free w else []

abbrev pub counts_compared : ℕ → Option (ℕ × ℕ) → Option (ℕ × ℕ) → List Change
counts_compared p None after = []
counts_compared p (Some b) None = []
counts_compared p (Some b) (Some a) = count_entries p b a

abbrev pub word_compared_to : ℕ → Cell → Option Cell → List Change
word_compared_to at b None = []
word_compared_to at b (Some a) = word_entries at b a

abbrev pub word_compared : Option (ℕ × Cell) → TaggedMemory → List Change
word_compared None m = []
word_compared (Some e) m = word_compared_to e.0 e.1 (cell_at m e.0)

-- all that a step may change
unfoldable pub compared : Seen → World → Step → List Change
compared seen w t =
    stream_compared t.p t.s seen.stream (used_stream w t.p t.s)
    ++ started_compared t.p seen.free seen.counts w
    ++ counts_compared t.p seen.counts (counts_of w t.p)
    ++ word_compared seen.word w.memory
