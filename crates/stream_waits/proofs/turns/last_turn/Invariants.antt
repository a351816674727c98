-- None of the steps from this place on turned the word.
use Rattle.stream_waits.proofs.LookedTurns.{NoneFrom}
use Rattle.stream_waits.proofs.turns.last_turn.Given as goal

abbrev pub invariant-loop-index : goal.invariant-loop-index
invariant-loop-index l = NoneFrom l.views l.address l.index
