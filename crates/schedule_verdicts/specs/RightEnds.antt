-- Whether a run may end so.
use Rattle.std.specs.Prelude.{ℕ, ◌==◌, nat_le, ◌&&◌, ◌||◌, not, Bool, true, false, IsTrue, List, Option, Some, None}
use Rattle.std.specs.List.{list_all, list_any}
use Rattle.stream_core.specs.Streams.{StreamValue}
use Rattle.stream_core.specs.Traps.{trap_number}
use Rattle.stream_core.specs.declared.steps.Status.{Status}
use Rattle.stream_core.specs.declared.steps.Status.TheVariants as status
use Rattle.stream_core.specs.declared.traps.TrapKind.{TrapKind}
use Rattle.processor.specs.Records.{is_running}
use Rattle.processor.specs.World.{World}
use Rattle.processor.specs.declared.steps.Step.{Step}
use Rattle.expectations.specs.Meeting.{is_met, stream_in}
use Rattle.expectations.specs.declared.expectation.Expectation.{Expectation}
use Rattle.expectations.specs.declared.expectation.Expectation.TheVariants as expect

-- whether all that is expected is so
abbrev pub are_met : World → List Expectation → Bool
are_met w expected = list_all (is_met w) expected

-- whether an expectation is that a trap of this kind stops the stream of these numbers
abbrev pub is_stop_by : ℕ → ℕ → TrapKind → Expectation → Bool
is_stop_by p s kind (expect.Word a value state) = false
is_stop_by p s kind (expect.Words a b value state) = false
is_stop_by p s kind (expect.Sum a b value) = false
is_stop_by p s kind (expect.Compared a r b more) = false
is_stop_by p s kind (expect.Register q t r value) = false
is_stop_by p s kind expect.Finished = false
is_stop_by p s kind (expect.Stopped q t trap) = (q == p && t == s) && trap == trap_number kind
is_stop_by p s kind (expect.Waits q t first last) = false
is_stop_by p s kind expect.Loops = false

-- whether one of the expectations is
abbrev pub is_trap_expected : List Expectation → ℕ → ℕ → TrapKind → Bool
is_trap_expected expected p s kind = list_any (is_stop_by p s kind) expected

-- whether a stream of this status was stopped by no trap, or by one that is expected
abbrev pub is_status_expected : List Expectation → ℕ → ℕ → Status → Bool
is_status_expected expected p s status.Idle = true
is_status_expected expected p s status.Running = true
is_status_expected expected p s (status.Stopped kind) = is_trap_expected expected p s kind

-- the same of a stream that may be missing
abbrev pub is_stop_expected : List Expectation → ℕ → ℕ → Option StreamValue → Bool
is_stop_expected expected p s None = true
is_stop_expected expected p s (Some d) = is_status_expected expected p s d.status

-- each trap that stopped a stream is expected of it
abbrev pub AreTrapsExpected : List Expectation → World → Type 0
AreTrapsExpected expected w = (t : Step) → IsTrue (is_stop_expected expected t.p t.s (stream_in w t.p t.s))

-- whether an expectation lets the stream of these numbers wait at this place
abbrev pub is_wait_by : ℕ → ℕ → ℕ → Expectation → Bool
is_wait_by p s place (expect.Word a value state) = false
is_wait_by p s place (expect.Words a b value state) = false
is_wait_by p s place (expect.Sum a b value) = false
is_wait_by p s place (expect.Compared a r b more) = false
is_wait_by p s place (expect.Register q t r value) = false
is_wait_by p s place expect.Finished = false
is_wait_by p s place (expect.Stopped q t trap) = false
is_wait_by p s place (expect.Waits q t first last) = (q == p && t == s) && (nat_le first place && nat_le place last)
is_wait_by p s place expect.Loops = false

-- whether one of the expectations does
abbrev pub may_wait_at : List Expectation → ℕ → ℕ → ℕ → Bool
may_wait_at expected p s place = list_any (is_wait_by p s place) expected

-- whether a stream that may be missing does not run, or may wait where it stands
abbrev pub is_rest_expected : List Expectation → ℕ → ℕ → Option StreamValue → Bool
is_rest_expected expected p s None = true
is_rest_expected expected p s (Some d) = not (is_running d) || may_wait_at expected p s d.ssw.pc

-- each stream that runs may wait where it stands
abbrev pub AreWaitsExpected : List Expectation → World → Type 0
AreWaitsExpected expected w = (t : Step) → IsTrue (is_rest_expected expected t.p t.s (stream_in w t.p t.s))

-- whether an expectation lets the program go on for ever
abbrev pub is_loop : Expectation → Bool
is_loop (expect.Word a value state) = false
is_loop (expect.Words a b value state) = false
is_loop (expect.Sum a b value) = false
is_loop (expect.Compared a r b more) = false
is_loop (expect.Register p s r value) = false
is_loop expect.Finished = false
is_loop (expect.Stopped p s trap) = false
is_loop (expect.Waits p s first last) = false
is_loop expect.Loops = true

-- whether one of the expectations does
abbrev pub may_loop : List Expectation → Bool
may_loop expected = list_any is_loop expected

-- Of a world from which nothing goes on: each stream that runs may wait where it stands, all that is expected is so, and
-- each trap that stopped a stream is expected of it.
pub record IsRightEnd (expected : List Expectation) (w : World) : Type 0 where
  pub waits : AreWaitsExpected expected w
  pub met : IsTrue (are_met w expected)
  pub traps : AreTrapsExpected expected w
