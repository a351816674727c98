use Rattle.std.proofs.Common.{◌||◌, sym, ◌∙◌}
use Rattle.replay_debugger.specs.StopFinders.{has_place, breaks_at}
use Rattle.replay_debugger.proofs.PlaceOrder.{place_added}
use Rattle.replay_debugger.proofs.breakpoints.Breakpoints.add.Goals as goal

pub returns-in_ok-insert : goal.returns-in_ok-insert
returns-in_ok-insert c = λ p pc.
    let is = sym c.in-Break.is in
    place_added c.self.inside.places.keys c.insert.new.self.keys c.in-Break.p c.in-Break.pc p pc
    (c.in_ok-insert.ensures.updates.0 (p, pc))
    ∙ (λ i. breaks_at p pc (is i) || has_place (c.self.view_is i) p pc)
