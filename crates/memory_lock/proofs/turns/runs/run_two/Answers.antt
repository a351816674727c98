use Rattle.std.proofs.Common.{◌∙◌, ap, arith, sym, length}
use Rattle.std.proofs.lemmas.List.{with_items_is}
use Rattle.shared_history.specs.Parts.{PartsValue}
use Rattle.memory_lock.proofs.Running.{is-run, continued, room-again}
use Rattle.memory_lock.proofs.TurnRunning.{new-entries}
use Rattle.memory_lock.proofs.turns.runs.run_two.Goals as goal

pub returns-clause-run : goal.returns-clause-run
returns-clause-run g c =
    let parts = c.into_parts-fuel.ensures in
    let records = c.into_parts-fuel.result.2 in
    let slice = c.as_mut_slice.ensures in
    let new = c.run_workers-shared.new.workers in
    let len = c.run_workers-shared.auto.workers in
    let is = with_items_is records new (len ∙ ap length slice.value ∙ sym records.ok.0) in
    let two = ap length (slice.value ∙ parts.records) ∙ c.requires.two in
    is-run c.args.parts c.of.result c.into_parts-fuel.result.0 c.as_mut_slice.result.now new parts.fuel
    (ap (λ (x : PartsValue). x.fuel) c.of.ensures) (slice.value ∙ parts.records)
    (ap (λ (x : PartsValue). x.records) c.of.ensures ∙ is) len
    (λ p d h. c.run_workers-shared.ensures.grown p d (omega (arith, h, two)))
    (continued parts.shared (ap (λ (x : PartsValue). x.shared) c.of.ensures) c.run_workers-shared.ensures.shared)

pub returns-clause-entries : goal.returns-clause-entries
returns-clause-entries g c =
    let parts = c.into_parts-fuel.ensures in
    let records = c.into_parts-fuel.result.2 in
    let slice = c.as_mut_slice.ensures in
    let new = c.run_workers-shared.new.workers in
    let len = c.run_workers-shared.auto.workers in
    let is = with_items_is records new (len ∙ ap length slice.value ∙ sym records.ok.0) in
    let two = ap length (slice.value ∙ parts.records) ∙ c.requires.two in
    new-entries c.args.parts c.of.result c.as_mut_slice.result.now new c.run_workers-shared.result.history
    (slice.value ∙ parts.records) (ap (λ (x : PartsValue). x.records) c.of.ensures ∙ is)
    (ap (λ (x : PartsValue). x.shared.history) c.of.ensures)
    (λ p d h. c.run_workers-shared.ensures.made p d (omega (arith, h, two)))

pub returns-clause-room_again : goal.returns-clause-room_again
returns-clause-room_again g c = room-again c.args.parts c.of.result (returns-clause-run g c)
