-- At which places streams stand, in all worlds that schedules lead to.
use Rattle.std.specs.Prelude.{◌≡◌, ◌≢◌, ℕ, Bool, true, List, Some, IsTrue, slice_get}
use Rattle.image_file.specs.ImageValue.{ImageValue}
use Rattle.processor.specs.Processors.{ProcessorValue, stream_at}
use Rattle.processor.specs.Records.{is_running}
use Rattle.processor.specs.World.{World, run}
use Rattle.processor.specs.declared.steps.Step.{Step}
use Rattle.reachable_places.specs.Ways.{is_reached}

-- Each stream of the world that runs stands at such a place: its pc is one.
abbrev pub AllStandIn : (ℕ → Type 0) → World → Type 0
AllStandIn reached w =
    (p k : ℕ) (proc : ProcessorValue) → slice_get w.processors p ≡ Some proc
    → is_running (stream_at proc.streams k) ≡ true → reached (stream_at proc.streams k).ssw.pc

-- In each world that a schedule of the image leads to, each running stream stands at a place that is reachable by
-- the list.
abbrev pub CoversRuns : ImageValue → List Bool → Type 0
CoversRuns image places = (ts : List Step) → AllStandIn (λ k. IsTrue (is_reached places k)) (run image ts)

-- In no world that a schedule of the image leads to a running stream stands at place k.
unfoldable pub IsNeverReached : ImageValue → ℕ → Type 0
IsNeverReached image k = (ts : List Step) → AllStandIn (λ j. j ≢ k) (run image ts)
