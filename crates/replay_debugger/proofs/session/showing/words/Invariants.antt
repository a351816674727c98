use Rattle.std.proofs.Common.{◌≡◌}
use Rattle.replay_debugger.specs.Table.{words_from}
use Rattle.replay_debugger.proofs.WordsInTurn.{words_left, words_onto}
use Rattle.replay_debugger.proofs.session.showing.words.Given as goal

-- the words so far and those that are left are all
abbrev pub invariant-loop-index : goal.invariant-loop-index
invariant-loop-index g l =
    words_onto l.list (words_left l.machine.world.memory l.first l.count l.index)
    ≡ words_from l.machine.world.memory l.first l.count
