use Rattle.std.proofs.Common.{◌≡◌, subst, Some}
use Rattle.std.specs.Prelude.{◌↔◌}
use Rattle.waiting.specs.Waits.{IsWaitOf}
use Rattle.machine.specs.MachineValue.{MachineValue}
use Rattle.named_session.proofs.named_session.NamedSession.wait.Goals as goal

pub returns : goal.returns
returns g c = λ wait.
    subst (λ (m : MachineValue).
    (c.wait_of.result ≡ Some wait) ↔ IsWaitOf m (record { p = c.args.p; s = c.args.s }) wait) c.machine.ensures
    (c.wait_of.ensures.is wait)
