-- When a claim holds of a world.
use Rattle.std.specs.Prelude.{ℕ, ◌==◌, nat_lt, nat_le, int_lt, Bool, true, false, not, ◌&&◌}
use Rattle.std.specs.Prelude.{List, Option, Some, None, slice_get}
use Rattle.std.specs.List.{count_by, sum_by}
use Rattle.std.specs.Option.{option_and_then}
use Rattle.tag_memory.specs.Cell.{Cell}
use Rattle.tag_memory.specs.Storage.{cell_at}
use Rattle.stream_core.specs.Arithmetic.{signed}
use Rattle.stream_core.specs.Streams.{StreamValue}
use Rattle.machine.specs.Processor.Processors.{ProcessorValue}
use Rattle.machine.specs.Processor.Records.{is_running}
use Rattle.machine.specs.Processor.World.{World}
use Rattle.machine.specs.ProcessorTypes.Step.{Step}
use Rattle.expectations.specs.MemoryWords.{is_compared}
use Rattle.claims.specs.declared.claim.Claim.{Claim}
use Rattle.claims.specs.declared.claim.ClaimForm.{ClaimForm}
use Rattle.claims.specs.declared.claim.ClaimForm.TheVariants as form
use Rattle.claims.specs.declared.claim.CountTest.{CountTest}
use Rattle.claims.specs.declared.claim.CountTest.TheVariants.{AtMost, AtLeast}
use Rattle.claims.specs.declared.claim.NumberOrder.{NumberOrder}
use Rattle.claims.specs.declared.claim.NumberOrder.TheVariants.{Unsigned, Signed}
use Rattle.claims.specs.declared.claim.Scope.{Scope}
use Rattle.claims.specs.declared.claim.Scope.TheVariants.{Always, Never, Once}
use Rattle.claims.specs.declared.claim.StreamGroup.{StreamGroup}
use Rattle.claims.specs.declared.claim.WordTest.{WordTest}
use Rattle.claims.specs.declared.claim.WordTest.TheVariants as test

-- whether a number of 64 bits is less than another: as they stand, or in two's complement
abbrev pub is_less : NumberOrder → ℕ → ℕ → Bool
is_less Unsigned a b = nat_lt a b
is_less Signed a b = int_lt (signed a) (signed b)

-- whether a word is so: its value is the one that is named, is above it or below it; it is full, or empty
abbrev pub is_so : WordTest → Cell → Bool
is_so (test.Is v) c = c.value == v
is_so (test.Above v order) c = is_less order v c.value
is_so (test.Below v order) c = is_less order c.value v
is_so test.Full c = c.full
is_so test.Empty c = not c.full

-- whether a word is there, and is so
abbrev pub word_holds : WordTest → Option Cell → Bool
word_holds t None = false
word_holds t (Some c) = is_so t c

-- the stream that a step names, if there are such a processor and such a stream of it
abbrev pub stream_at : World → Step → Option StreamValue
stream_at w t = option_and_then (λ (d : ProcessorValue). slice_get d.streams t.s) (slice_get w.processors t.p)

-- whether a stream is there, runs, and has its pc from the first place of a range to its last
abbrev pub runs_at_places : ℕ → ℕ → Option StreamValue → Bool
runs_at_places first last None = false
runs_at_places first last (Some s) = is_running s && (nat_le first s.ssw.pc && nat_le s.ssw.pc last)

-- how many of some streams run at places of a range
abbrev pub count_at_places : World → ℕ → ℕ → List Step → ℕ
count_at_places w first last ts = count_by (λ t. runs_at_places first last (stream_at w t)) ts

-- how many of the streams of a group run at places of its range
abbrev pub count_in_group : World → StreamGroup → ℕ
count_in_group w g = count_at_places w g.first g.last g.streams.items

-- how many those of some groups are together: a stream of several groups counts in each in whose range it runs
abbrev pub count_in_groups : World → List StreamGroup → ℕ
count_in_groups w gs = sum_by (count_in_group w) gs

-- whether a count is at most so much, or at least
abbrev pub counts_so : CountTest → ℕ → Bool
counts_so (AtMost most) n = nat_le n most
counts_so (AtLeast least) n = nat_le least n

-- whether a form of claim holds of a world: a word is so; the values of two words stand so to each other, as in a line about
-- an end; so many of the streams of some groups run at places of their ranges
abbrev pub form_holds : World → ClaimForm → Bool
form_holds w (form.Word a t) = word_holds t (cell_at w.memory a)
form_holds w (form.Compared a r b more) = is_compared r more (cell_at w.memory a) (cell_at w.memory b)
form_holds w (form.Streams t gs) = counts_so t (count_in_groups w gs.items)

-- what has to hold of each world, or of none; no world alone breaks what has to hold of one at least
abbrev pub holds_by : Scope → Bool → Bool
holds_by Always so = so
holds_by Never so = not so
holds_by Once so = true

-- whether a claim holds of a world
abbrev pub holds : World → Claim → Bool
holds w c = holds_by c.scope (form_holds w c.form)

-- what has to hold of one world at least is shown by one where it is so; of the rest nothing has to be shown
abbrev pub shown_by : Scope → Bool → Bool
shown_by Always so = true
shown_by Never so = true
shown_by Once so = so

-- whether a world shows a claim
abbrev pub shows : World → Claim → Bool
shows w c = shown_by c.scope (form_holds w c.form)
