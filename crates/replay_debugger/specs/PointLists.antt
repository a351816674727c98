-- The points of a session as a list, and those that stop at a position.
use Rattle.std.specs.Prelude.{ℕ, ◌+◌, ◌-◌, if◌then◌else◌, List, [], ◌∷◌, ◌++◌, Option, Some, None, slice_get}
use Rattle.processor.specs.World.{World}
use Rattle.processor.specs.declared.steps.Step.{Step}
use Rattle.replay_debugger.specs.declared.points.Point.{Point}
use Rattle.replay_debugger.specs.Sessions.{SessionValue, world_at}
use Rattle.replay_debugger.specs.Stops.{point_stops}

-- the points of slots, each with its key, by rising key, where the first slot has this key
abbrev pub points_from : ℕ → List (Option Point) → List (ℕ × Point)
points_from key [] = []
points_from key (None ∷ rest) = points_from (key + 1) rest
points_from key (Some point ∷ rest) = (key, point) ∷ points_from (key + 1) rest

-- the keys of those points that stop in a world, given the world before the last step, and the step that follows
abbrev pub stopping_keys : World → World → Option Step → List (ℕ × Point) → List ℕ
stopping_keys before w next [] = []
stopping_keys before w next (e ∷ rest) =
    (if point_stops before w next e.1 then e.0 ∷ [] else []) ++ stopping_keys before w next rest

-- the keys of the points that make the position of a session a stop, by rising key
abbrev pub stopping_keys_of : SessionValue → List ℕ
stopping_keys_of s =
    stopping_keys (world_at s.image s.schedule (s.position - 1)) (world_at s.image s.schedule s.position)
    (slice_get s.schedule s.position) (points_from 0 s.points)
