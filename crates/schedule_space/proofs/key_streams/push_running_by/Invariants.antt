-- the steps of the streams of the processors so far are there, where these run, each once
use Rattle.std.proofs.Common.{◌≡◌, ◌<◌, []}
use Rattle.std.specs.Prelude.{IsTrue}
use Rattle.std.specs.List.{Contains}
use Rattle.processor.specs.World.{World}
use Rattle.processor.specs.declared.steps.Step.{Step}
use Rattle.waiting.specs.Running.{runs_in}
use Rattle.world_keys.specs.DeadRegisters.Clearing.{LiveValue, cleared}
use Rattle.world_keys.specs.WorldKeys.{key_of, IsKnown}
use Rattle.schedule_space.specs.Spaces.{AreAllDifferent}
use Rattle.schedule_space.proofs.key_streams.push_running_by.Given as goal

abbrev pub invariant-loop-p : goal.invariant-loop-p
invariant-loop-p l = record {
  each :
      (live : LiveValue) (w : World) → IsKnown l.contents l.image (cleared live w)
      → l.key ≡ key_of l.contents l.image (cleared live w)
      → (t : Step) → t.p < l.p → IsTrue (runs_in w t) → Contains l.running.items t;
  own : l.fn.running.items ≡ [] → (t : Step) → Contains l.running.items t → t.p < l.p;
  once :
      l.fn.running.items ≡ [] → (live : LiveValue) (w : World) → IsKnown l.contents l.image (cleared live w)
      → l.key ≡ key_of l.contents l.image (cleared live w) → AreAllDifferent l.running.items;
}
