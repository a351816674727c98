use Rattle.std.proofs.Common.{◌∙◌, ap, sym, length}
use Rattle.std.proofs.lemmas.List.{with_items_is}
use Rattle.shared_history.specs.Parts.{PartsValue}
use Rattle.memory_lock.proofs.Running.{is-run, room-again, continued}
use Rattle.memory_lock.proofs.threads.run_by_lock.Goals as goal

pub returns-clause-run : goal.returns-clause-run
returns-clause-run g c =
    let parts = c.into_parts-fuel.ensures in
    let records = c.into_parts-fuel.result.2 in
    let slice = c.as_mut_slice.ensures in
    let new = c.run_records-shared.new.records in
    let len = c.run_records-shared.auto.records in
    let is = with_items_is records new (len ∙ ap length slice.value ∙ sym records.ok.0) in
    is-run c.args.parts c.of.result c.into_parts-fuel.result.0 c.as_mut_slice.result.now new parts.fuel
    (ap (λ (x : PartsValue). x.fuel) c.of.ensures) (slice.value ∙ parts.records)
    (ap (λ (x : PartsValue). x.records) c.of.ensures ∙ is) len c.run_records-shared.ensures.grown
    (continued parts.shared (ap (λ (x : PartsValue). x.shared) c.of.ensures) c.run_records-shared.ensures.shared)

pub returns-clause-room_again : goal.returns-clause-room_again
returns-clause-room_again g c = room-again c.args.parts c.of.result (returns-clause-run g c)
