use Rattle.insn_word.specs.ShortInsns.{reference_instruction}
use Rattle.stream_core.specs.StreamRow.{after_reply}
use Rattle.processor.proofs.TableViews.{step_seen}
use Rattle.processor.proofs.stream_table.StreamTable.complete_reference.Goals as goal

pub returns : goal.returns
returns g c =
    step_seen g.row.S c.self.inside.slim c.args.place c.self.inside.streams.items c.args.self.now
    c.index_mut.result.now c.reply_reference.new.self c.reply_reference.result
    (λ s. after_reply c.args.limit s (reference_instruction c.args.reference.now) 0 c.args.reply) c.self.invariant
    c.self.view_is c.requires.there c.index_mut.ensures.value c.reply_reference.ensures
