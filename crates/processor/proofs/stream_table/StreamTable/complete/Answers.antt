use Rattle.processor.proofs.TableViews.{complete_unasked, complete_answered}
use Rattle.processor.proofs.stream_table.StreamTable.complete.Goals as goal

pub returns-in-None : goal.returns-in-None
returns-in-None g c =
    complete_unasked g.row.S c.self.inside.slim c.args.place c.self.inside.streams.items c.args.self.now
    c.index_mut.result.now c.execute.new.self c.args.limit c.args.insn.now c.args.grant c.args.reply
    c.self.invariant c.self.view_is c.requires.there c.index_mut.ensures.value c.requires.reply c.in-None.is
    c.execute.ensures

pub returns-in-Some : goal.returns-in-Some
returns-in-Some g c =
    complete_answered g.row.S c.self.inside.slim c.args.place c.self.inside.streams.items c.args.self.now
    c.index_mut-in-Some.result.now c.reply.new.self c.reply.result c.args.limit c.args.insn.now c.args.grant
    c.args.reply c.in-Some.reply c.self.invariant c.self.view_is c.requires.there c.index_mut-in-Some.ensures.value
    c.requires.reply c.in-Some.is c.reply.ensures
