-- Where no stream runs, each that runs may wait where it stands.
use Rattle.std.proofs.Common.{◌≡◌, ℕ, ◌||◌, Bool, true, false, refl, ap, ◌∙◌, Option, Some, None, List, slice_get}
use Rattle.std.specs.Prelude.{IsTrue, not}
use Rattle.std.specs.Option.{option_and_then}
use Rattle.stream_core.specs.Streams.{StreamValue}
use Rattle.processor.specs.Processors.{ProcessorValue}
use Rattle.processor.specs.Records.{is_running}
use Rattle.processor.specs.World.{World}
use Rattle.processor.specs.declared.steps.Step.{Step}
use Rattle.waiting.specs.Running.{streams_at, runs_at}
use Rattle.waiting.specs.Stuck.{SomeRuns}
use Rattle.expectations.specs.declared.expectation.Expectation.{Expectation}
use Rattle.schedule_verdicts.specs.RightEnds.{is_rest_expected, may_wait_at, AreWaitsExpected}

module _ (expected : List Expectation) (w : World) (none : ¬ SomeRuns w) where
  at_rest : (t : Step) (d : StreamValue) → (is_running d ≡ true → ⊥) → (b : Bool) → is_running d ≡ b
      → IsTrue (not b || may_wait_at expected t.p t.s d.ssw.pc)
  at_rest t d never false is = refl
  at_rest t d never true is = absurd (never is)

  pub none_waits : AreWaitsExpected expected w
  none_waits t = by_processor (slice_get w.processors t.p) refl where
    by_stream : (ds : List StreamValue)
        → (slice_get (streams_at (slice_get w.processors t.p)) t.s ≡ slice_get ds t.s) → (o : Option StreamValue)
        → slice_get ds t.s ≡ o → IsTrue (is_rest_expected expected t.p t.s o)
    by_stream ds at None got = refl
    by_stream ds at (Some d) got =
        at_rest t d (λ runs. none (t, ap runs_at (at ∙ got) ∙ runs)) (is_running d) refl

    by_processor : (o : Option ProcessorValue) → slice_get w.processors t.p ≡ o
        → IsTrue
        (is_rest_expected expected t.p t.s (option_and_then (λ (d : ProcessorValue). slice_get d.streams t.s) o))
    by_processor None got = refl
    by_processor (Some proc) got =
        by_stream proc.streams (ap (λ (o : Option ProcessorValue). slice_get (streams_at o) t.s) got)
        (slice_get proc.streams t.s) refl
