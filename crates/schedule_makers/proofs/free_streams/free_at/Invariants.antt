-- Among the streams that are left, the one that is wanted stands at the place that is left.
use Rattle.std.proofs.Common.{◌≡◌, filter, slice_get, drop}
use Rattle.schedule_makers.specs.Free.{is_free_but}
use Rattle.schedule_makers.proofs.free_streams.free_at.Given as goal

abbrev pub invariant-loop-step : goal.invariant-loop-step
invariant-loop-step g l =
    slice_get (filter (is_free_but l.out l.machine.image l.machine.world) (drop l.step-index l.steps)) l.left
    ≡ slice_get (filter (is_free_but l.out l.machine.image l.machine.world) l.steps) l.fn.place
