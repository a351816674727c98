use Rattle.std.proofs.Common.{sym, ◌∙◌}
use Rattle.replay_debugger.proofs.WordsInTurn.{words_shift}
use Rattle.replay_debugger.proofs.session.showing.words.Goals as goal

pub loop-index-preserved : goal.loop-index-preserved
loop-index-preserved g c =
    words_shift c.args.machine.now.world.memory c.loop-index.list c.push.new.self c.args.first c.args.count
    c.loop-index.index c.in-Some.found c.loop-index-test.true
    (sym c.in-Some.is ∙ c.word_at.ensures) c.in_ok-push.ensures.added
    ∙ c.loop-index.invariant
