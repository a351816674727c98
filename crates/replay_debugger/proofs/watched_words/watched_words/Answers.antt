use Rattle.std.proofs.Common.{◌++◌, ap, ◌∙◌}
use Rattle.replay_debugger.specs.StopFinders.{watches_of}
use Rattle.replay_debugger.proofs.Entries.{watches_among, entries_watch}
use Rattle.replay_debugger.proofs.watched_words.watched_words.Goals as goal

pub loop-key-init : goal.loop-key-init
loop-key-init g c =
    let m = c.args.machine.now.world.memory in
    let all = c.into_iter-key-iterator.ensures.into_iter_gives ∙ c.iter-key-items.ensures.rest in
    record {
      can = tt;
      finite = tt;
      words = (λ i. c.new-words.ensures.items i ++ watches_among m (all i))
          ∙ entries_watch m 0 c.points.inside.slots.slots ∙ ap (watches_of m) c.points.view_is;
    }
