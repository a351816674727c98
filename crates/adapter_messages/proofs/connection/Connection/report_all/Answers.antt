use Rattle.std.proofs.Common.{◌≡◌, ◌+◌, List, ◌∷◌, [], ◌++◌, ℕ, map, take, length, arith, ap, sym, subst, ◌∙◌, length-take-le}
use Rattle.std.proofs.lemmas.List.{map_more, length-map}
use Rattle.adapter_messages.specs.declared.connection.Event.{Event}
use Rattle.adapter_messages.specs.Responses.{SendsEvents}
use Rattle.adapter_messages.proofs.Sending.{events_then_events, event_after_events}
use Rattle.adapter_messages.proofs.connection.Connection.report_all.Goals as goal

pub loop-event-preserved : goal.loop-event-preserved
loop-event-preserved c =
    let before = c.args.self.now.outbox in
    let between = c.loop-event.self.outbox in
    let after = c.send_event.new.self.outbox in
    let first = c.args.self.now.sent in
    let place = c.loop-event.event-index in
    let events = c.deref-event-items.result.now in
    let event = c.event-item.result in
    let sofar = c.loop-event.invariant in
    let name_of : Event → List ℕ = λ e. e.name.now in
    let names = map name_of (take place events) in
    let many : length names ≡ place =
    length-map (take place events) name_of ∙ length-take-le place events (omega (arith, c.loop-event-test.true)) in
    let more : map name_of (take (place + 1) events) ≡ names ++ name_of event ∷ [] =
    map_more name_of events place event c.loop-event-test.true
    ∙ ap (λ e. names ++ name_of e ∷ []) (sym c.event-item.is) in
    record {
      none = events_then_events before between after sofar.none c.send_event.ensures.none;
      says = subst (λ l. SendsEvents before after first l) (sym more)
          (event_after_events before between after first c.send_event.new.self.sent names (name_of event) sofar.says
          c.in_ok-send_event.ensures.says (omega (arith, many)));
      number = omega arith;
    }
