use Rattle.std.proofs.Common.{◌≡◌, ◌+◌}
use Rattle.replay_debugger.specs.StopFinders.{IsLastBelow}
use Rattle.named_session.specs.WordTurns.{turns_word}
use Rattle.named_session.proofs.named_session.NamedSession.last_turn.Given as goal

-- the clone stands at this position, and the last turn up to there is known
abbrev pub invariant-loop-index : goal.invariant-loop-index
invariant-loop-index g l = record {
  at : l.other ≡ record l.self.session { position = l.index };
  last : IsLastBelow (turns_word l.self.session l.address) (l.index + 1) l.last;
}
