use Rattle.std.proofs.Common.{◌≡◌, map, take}
use Rattle.adapter_messages.specs.Responses.{SendsNoResponse, SendsEvents, number_after}
use Rattle.adapter_messages.proofs.connection.Connection.report_all.Given as goal

-- the events so far were sent, and nothing else
abbrev pub invariant-loop-event : goal.invariant-loop-event
invariant-loop-event l =
    let events = l.event-items in
    record {
      none : SendsNoResponse l.initial.self.outbox l.self.outbox;
      says : SendsEvents l.initial.self.outbox l.self.outbox l.initial.self.sent
          (map (λ event. event.name.now) (take l.event-index events));
      number : l.self.sent ≡ number_after l.initial.self.sent l.event-index;
    }
