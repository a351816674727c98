use Rattle.stream_core.specs.Streams.{after_trap}
use Rattle.processor.proofs.TableViews.{step_seen}
use Rattle.processor.proofs.stream_table.StreamTable.trap.Goals as goal

pub returns : goal.returns
returns g c =
    step_seen g.row.S c.self.inside.slim c.args.place c.self.inside.streams.items c.args.self.now
    c.index_mut.result.now c.trap.new.self c.trap.result (after_trap c.args.kind 0) c.self.invariant c.self.view_is
    c.requires.there c.index_mut.ensures.value c.trap.ensures
