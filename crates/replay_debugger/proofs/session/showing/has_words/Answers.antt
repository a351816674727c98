use Rattle.std.proofs.Common.{sym, ◌∙◌}
use Rattle.replay_debugger.proofs.WordsInTurn.{is_some_next}
use Rattle.replay_debugger.proofs.session.showing.has_words.Goals as goal

pub loop-index-preserved : goal.loop-index-preserved
loop-index-preserved g c =
    is_some_next c.args.machine.now.world.memory c.args.first c.args.count c.loop-index.index c.in-Some._word
    c.loop-index-test.true (sym c.in-Some.is ∙ c.word_at.ensures)
    ∙ c.loop-index.invariant
