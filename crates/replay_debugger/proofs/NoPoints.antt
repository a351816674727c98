-- Where no key has a point, no position is a stop.
use Rattle.std.proofs.Common.{◌≡◌, ℕ, ◌+◌, ◌-◌, false, cond, refl, sym, ◌∙◌, arith, List, [], ◌∷◌}
use Rattle.std.proofs.Common.{Option, Some, None, is_some}
use Rattle.std.proofs.Common.{count_by, slice_get}
use Rattle.std.specs.List.{list_any}
use Rattle.std.proofs.lemmas.List.Sums.{sum_by-cons}
use Rattle.image_file.specs.ImageValue.{ImageValue}
use Rattle.processor.specs.World.{World}
use Rattle.processor.specs.declared.steps.Step.{Step}
use Rattle.replay_debugger.specs.declared.points.Point.{Point}
use Rattle.replay_debugger.specs.Sessions.{world_at}
use Rattle.replay_debugger.specs.Stops.{slot_stops, is_stop}

none_stops : (before w : World) (next : Option Step) (points : List (Option Point)) → count_by is_some points ≡ 0
    → list_any (slot_stops before w next) points ≡ false
none_stops before w next [] none = refl
none_stops before w next (None ∷ rest) none = none_stops before w next rest (omega (arith, none))
none_stops before w next (Some point ∷ rest) none =
    let weight : Option Point → ℕ = λ x. cond (is_some x) 1 0 in
    let one : 1 + count_by is_some rest ≡ 0 = sym (sum_by-cons weight (Some point) rest) ∙ none in
    absurd (omega (arith, one))

pub no_stop : (image : ImageValue) (schedule : List Step) (points : List (Option Point)) (k : ℕ)
    → count_by is_some points ≡ 0 → is_stop image schedule points k ≡ false
unfolding is_stop
no_stop image schedule points k none =
    none_stops (world_at image schedule (k - 1)) (world_at image schedule k) (slice_get schedule k) points none
