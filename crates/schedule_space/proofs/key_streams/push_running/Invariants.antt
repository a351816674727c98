-- the steps of the streams of the marks so far are there, where these run, each once, and those of others stay
use Rattle.std.proofs.Common.{◌≡◌, ◌<◌, ◌+◌, ◌*◌, ◌⊎◌, ℕ, true, Some, slice_get}
use Rattle.std.specs.List.{Contains}
use Rattle.processor.specs.Processors.{ProcessorValue, stream_at}
use Rattle.processor.specs.Records.{is_running}
use Rattle.processor.specs.declared.steps.Step.{Step}
use Rattle.world_keys.specs.WorldKeys.{processor_place, IsKnownProcessor}
use Rattle.schedule_space.specs.Spaces.{AreAllDifferent}
use Rattle.schedule_space.proofs.KeyStreams.{IsMarkedBefore}
use Rattle.schedule_space.proofs.key_streams.push_running.Given as goal

abbrev pub invariant-loop-mark : goal.invariant-loop-mark
invariant-loop-mark l = record {
  each :
      (proc : ProcessorValue) → IsKnownProcessor l.contents l.image proc → l.content ≡ processor_place l.contents proc
      → (s : ℕ) → is_running (stream_at proc.streams s) ≡ true
      → (k : ℕ) → k < l.mark → slice_get l.marks (2 * k + 1) ≡ Some s
      → Contains l.running.items (record { p = l.p; s = s });
  others : (t : Step) → Contains l.fn.running.items t → Contains l.running.items t;
  own : (t : Step) → Contains l.running.items t → Contains l.fn.running.items t ⊎ IsMarkedBefore l.marks l.p l.mark t;
  once :
      (proc : ProcessorValue) → IsKnownProcessor l.contents l.image proc → l.content ≡ processor_place l.contents proc
      → ((t : Step) → Contains l.fn.running.items t → t.p ≡ l.p → ⊥) → AreAllDifferent l.fn.running.items
      → AreAllDifferent l.running.items;
}
