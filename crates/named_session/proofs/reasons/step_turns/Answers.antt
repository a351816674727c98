use Rattle.std.proofs.Common.{◌≡◌, ◌+◌, ◌-◌, ap, ◌∙◌, arith}
use Rattle.tag_memory.specs.Storage.{cell_at}
use Rattle.machine.specs.MachineValue.{MachineValue}
use Rattle.replay_debugger.specs.Sessions.{SessionValue, world_at, session_world}
use Rattle.named_session.specs.WordTurns.{is_turned}
use Rattle.named_session.proofs.reasons.step_turns.Goals as goal

pub returns-clause-turns : goal.returns-clause-turns
returns-clause-turns g c =
    let s = c.args.session.now in
    let a = c.args.address in
    let back : s.position ≡ s.position + 1 - 1 = omega arith in
    let was : c.word-before.result ≡ cell_at (world_at s.image s.schedule (s.position + 1 - 1)).memory a =
    c.word-before.ensures
    ∙ ap (λ (m : MachineValue). cell_at m.world.memory a) c.machine.ensures
    ∙ ap (λ k. cell_at (world_at s.image s.schedule k).memory a) back in
    let is : c.word-now.result ≡ cell_at (world_at s.image s.schedule (s.position + 1)).memory a =
    c.word-now.ensures
    ∙ ap (λ (m : MachineValue). cell_at m.world.memory a) c.machine-2.ensures
    ∙ ap (λ (x : SessionValue). cell_at (session_world x).memory a) c.in_ok-command.ensures.1.goes in
    c.is_turned.ensures ∙ (λ i. is_turned (was i) (is i))
