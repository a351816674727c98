use Rattle.std.proofs.Common.{rules, subst, codes}
use Rattle.adapter_messages.specs.Responses.{SendsOne, SendsTwo, answer_head, event_head, next_number}
use Rattle.adapter_messages.proofs.Sending.{one_then_one}
use Rattle.adapter_messages.proofs.connection.say_launched.Goals as goal

pub returns-clause-says : goal.returns-clause-says
returns-clause-says c =
    let before = c.args.connection.now.outbox in
    let between = c.respond.new.self.outbox in
    let after = c.send_event.new.self.outbox in
    let first = answer_head (next_number c.args.connection.now.sent) c.args.request (codes "launch") in
    let second = event_head c.send_event.new.self.sent (codes "initialized") in
    let one : SendsOne before between first =
    subst (λ n. SendsOne before between (answer_head n c.args.request (codes "launch"))) c.respond.ensures.number
    c.in_ok-respond.ensures.says in
    let sent : SendsOne between after second → SendsTwo before after first second =
    one_then_one before between after first second one in
    search (rules, sent)
