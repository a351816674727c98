use Rattle.std.proofs.Common.{rules}
use Rattle.language_messages.proofs.Sending.{refusal_sent}
use Rattle.language_messages.proofs.connection.Connection.refuse.Goals as goal

pub returns-clause-one : goal.returns-clause-one
returns-clause-one c =
    let sent =
    refusal_sent c.args.self.now.outbox c.send.new.self c.args.id.now c.number.result c.args.words.now _
    c.in_ok-text.ensures in
    search (rules, sent)
