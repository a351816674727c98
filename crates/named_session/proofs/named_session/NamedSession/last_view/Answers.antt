use Rattle.std.proofs.Common.{◌≡◌, ◌-◌, rules, subst, sym, ap, ◌∙◌, Some}
use Rattle.machine.specs.MachineValue.{MachineValue}
use Rattle.processor.specs.World.{after}
use Rattle.step_views.specs.StepViews.{IsViewOf}
use Rattle.replay_debugger.specs.StreamSteps.{step_to}
use Rattle.named_session.specs.LastSteps.{machine_seen}
use Rattle.named_session.proofs.NextWorlds.{world_led}
use Rattle.named_session.proofs.named_session.NamedSession.last_view.Goals as goal

-- the machine before the step is that at the position before, and the machine after it that at the session's own
pub returns-clause-last : goal.returns-clause-last
returns-clause-last g c =
    let s = c.args.self.now.session in
    let t = c.in-Some.step in
    let led : step_to s.schedule s.position ≡ Some t = sym c.last_step.ensures ∙ c.in-Some.is in
    let place : c.saturating_sub-before.result ≡ s.position - 1 = search rules in
    let before : c.in_ok-machine.machine ≡ machine_seen s (s.position - 1) =
    c.in_ok-machine.ensures.is ∙ ap (machine_seen s) place in
    let image = c.in_ok-view.ensures.image ∙ ap (λ (m : MachineValue). m.image) before in
    let world = c.in_ok-view.ensures.world ∙ ap (λ (m : MachineValue). after m.image m.world t) before
    ∙ world_led s t led in
    record {
      step = t;
      led = led;
      did = subst (λ (m : MachineValue). IsViewOf m.image m.world t c.in_ok-view.view) before c.in_ok-view.ensures.view;
      after = λ i. record { image = image i; world = world i };
    }
