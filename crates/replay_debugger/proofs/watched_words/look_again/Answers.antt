use Rattle.std.proofs.Common.{sym, ◌∙◌}
use Rattle.replay_debugger.proofs.FindsAgain.{unchanged}
use Rattle.replay_debugger.proofs.watched_words.look_again.Goals as goal

pub returns-clause-seen : goal.returns-clause-seen
returns-clause-seen g c =
    unchanged c.args.machine.now.world.memory c.args.words.now
    (sym c.any_changed.ensures ∙ c.if-any_changed.false)
