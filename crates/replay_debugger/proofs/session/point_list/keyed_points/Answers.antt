use Rattle.std.proofs.Common.{◌++◌, ap, ◌∙◌}
use Rattle.replay_debugger.specs.PointLists.{points_from}
use Rattle.replay_debugger.proofs.PointEntries.{entries_are}
use Rattle.replay_debugger.proofs.session.point_list.keyed_points.Goals as goal

pub loop-key-init : goal.loop-key-init
loop-key-init c =
    let all = c.into_iter-key-iterator.ensures.into_iter_gives ∙ c.iter-key-items.ensures.rest in
    record {
      can = tt;
      finite = tt;
      points = (λ i. c.new-keyed.ensures.items i ++ all i)
          ∙ entries_are 0 c.points.inside.slots.slots ∙ ap (points_from 0) c.points.view_is;
    }
