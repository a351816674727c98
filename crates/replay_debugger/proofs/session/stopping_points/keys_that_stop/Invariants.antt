use Rattle.std.proofs.Common.{◌≡◌, ◌++◌}
use Rattle.replay_debugger.specs.PointLists.{stopping_keys, points_from}
use Rattle.replay_debugger.proofs.session.stopping_points.keys_that_stop.Given as goal

-- the keys so far and those of the entries to come that stop are those of all points that do
abbrev pub invariant-loop-key : goal.invariant-loop-key
invariant-loop-key g l = record {
  can : (goal.iterator-loop-key g).can_next l.key-iterator;
  finite : (goal.iterator-loop-key g).is_finite l.key-iterator;
  keys : l.keys.items ++ stopping_keys l.before.world l.machine.world l.next l.key-iterator
      ≡ stopping_keys l.before.world l.machine.world l.next (points_from 0 l.points);
}
