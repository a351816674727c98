use Rattle.std.proofs.Common.{◌≡◌, ◌∙◌, sym, ap, rules, Some}
use Rattle.machine.specs.MachineValue.{MachineValue}
use Rattle.processor.specs.World.{World}
use Rattle.stream_core.specs.declared.steps.Outcome.{Outcome}
use Rattle.schedule_space.specs.Kept.{machine_next}
use Rattle.schedule_space.proofs.stepping.moved_if_let_go.Goals as goal

pub returns-clause-next : goal.returns-clause-next
returns-clause-next g c = λ m hand n some.
    let before = c.in_ok-next.next in
    let there : c.args.machine.now ≡ Some before = search rules in
    let world = ap (λ (x : World × Outcome). x.0) c.step.ensures.world in
    let moved : c.step.new.self ≡ machine_next before c.args.step =
    λ i. record { image = c.step.ensures.image i; world = world i } in
    let same : c.step.new.self ≡ n = cc in
    sym same ∙ moved ∙ ap (λ (x : MachineValue). machine_next x c.args.step) (hand before there)
