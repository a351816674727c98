use Rattle.std.proofs.Common.{◌+◌, ap, ◌∙◌}
use Rattle.replay_debugger.specs.Sessions.{SessionValue}
use Rattle.named_session.specs.WordTurns.{turns_word}
use Rattle.named_session.proofs.FirstPosition.{none_at_first}
use Rattle.named_session.proofs.named_session.NamedSession.last_turn.Goals as goal

pub loop-index-init : goal.loop-index-init
loop-index-init g c = record {
  at = c.in_ok-command.ensures.1.goes
      ∙ ap (λ (x : SessionValue). record x { position = 0 }) c.in_ok-other.ensures;
  last = none_at_first c.args.self.now.session c.args.address;
}

pub loop-index-preserved : goal.loop-index-preserved
loop-index-preserved g c =
    let s = c.args.self.now.session in
    let a = c.args.address in
    let at = c.loop-index.invariant.at in
    record {
      at = c.in_ok-turned.ensures.goes
          ∙ ap (λ (x : SessionValue). record x { position = x.position + 1 }) at;
      last =
          c.later-last.ensures (turns_word s a)
          (c.in_ok-turned.ensures.turns
          ∙ ap (λ (x : SessionValue). turns_word x a (x.position + 1)) at) c.loop-index.invariant.last;
    }
