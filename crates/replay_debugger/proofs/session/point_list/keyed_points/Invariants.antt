use Rattle.std.proofs.Common.{◌≡◌, ◌++◌}
use Rattle.replay_debugger.specs.PointLists.{points_from}
use Rattle.replay_debugger.proofs.session.point_list.keyed_points.Given as goal

-- the points so far and the entries to come are all points
abbrev pub invariant-loop-key : goal.invariant-loop-key
invariant-loop-key l = record {
  can : (goal.iterator-loop-key).can_next l.key-iterator;
  finite : (goal.iterator-loop-key).is_finite l.key-iterator;
  points : l.keyed.items ++ l.key-iterator ≡ points_from 0 l.points;
}
