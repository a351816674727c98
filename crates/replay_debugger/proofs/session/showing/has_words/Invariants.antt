use Rattle.std.proofs.Common.{◌≡◌, is_some}
use Rattle.replay_debugger.specs.Table.{words_from}
use Rattle.replay_debugger.proofs.WordsInTurn.{words_left}
use Rattle.replay_debugger.proofs.session.showing.has_words.Given as goal

-- all are there where those that are left are
abbrev pub invariant-loop-index : goal.invariant-loop-index
invariant-loop-index g l =
    is_some (words_left l.machine.world.memory l.first l.count l.index)
    ≡ is_some (words_from l.machine.world.memory l.first l.count)
