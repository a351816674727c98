use Rattle.std.proofs.Common.{◌++◌, ap, ◌∙◌}
use Rattle.replay_debugger.specs.PointLists.{stopping_keys, points_from}
use Rattle.replay_debugger.proofs.PointEntries.{entries_are}
use Rattle.replay_debugger.proofs.session.stopping_points.keys_that_stop.Goals as goal

pub loop-key-init : goal.loop-key-init
loop-key-init g c =
    let all = c.into_iter-key-iterator.ensures.into_iter_gives ∙ c.iter-key-items.ensures.rest in
    let before = c.args.before.now.world in
    let now = c.args.machine.now.world in
    record {
      can = tt;
      finite = tt;
      keys = (λ i. c.new-keys.ensures.items i ++ stopping_keys before now c.args.next (all i))
          ∙ ap (stopping_keys before now c.args.next)
          (entries_are 0 c.points.inside.slots.slots ∙ ap (points_from 0) c.points.view_is);
    }
