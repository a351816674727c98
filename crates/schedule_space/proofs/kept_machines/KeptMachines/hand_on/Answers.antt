use Rattle.std.proofs.Common.{sym, ap, subst, Option}
use Rattle.machine.specs.MachineValue.{MachineValue}
use Rattle.schedule_space.specs.Kept.{KeptValue, IsAtHand}
use Rattle.schedule_space.proofs.kept_machines.KeptMachines.hand_on.Goals as goal

pub returns-clause-next : goal.returns-clause-next
returns-clause-next g c = λ m hand.
    c.moved_if_let_go.ensures.next m
    (subst (λ (o : Option MachineValue). IsAtHand m o) (sym (ap (λ (x : KeptValue). x.here) c.self.view_is)) hand)
