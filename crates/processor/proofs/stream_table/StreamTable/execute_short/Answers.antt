use Rattle.insn_word.specs.ShortInsns.{short_instruction}
use Rattle.stream_core.specs.Effects.{after_instruction}
use Rattle.processor.proofs.TableViews.{execute_seen}
use Rattle.processor.proofs.stream_table.StreamTable.execute_short.Goals as goal

pub returns : goal.returns
returns g c =
    execute_seen g.row.S c.self.inside.slim c.args.place c.self.inside.streams.items c.args.self.now
    c.index_mut.result.now c.execute_short.new.self
    (λ s. after_instruction s (short_instruction c.args.short.now) 0 0)
    c.self.invariant c.self.view_is c.requires.there c.index_mut.ensures.value c.execute_short.ensures
