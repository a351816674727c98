use Rattle.std.proofs.Common.{rules}
use Rattle.adapter_messages.proofs.Sending.{refusal_sent}
use Rattle.adapter_messages.proofs.connection.Connection.refuse.Goals as goal

pub returns-clause-one : goal.returns-clause-one
returns-clause-one c =
    let sent = refusal_sent c.args.self.now.outbox c.send.new.self _ c.args.request c.args.command.now _ _ c.in_ok-text.ensures in
    search (rules, sent)
