use Rattle.std.proofs.Common.{◌∙◌, rules}
use Rattle.processor.proofs.TableViews.{running_here}
use Rattle.processor.proofs.stream_table.StreamTable.running_from.Goals as goal

pub returns-then-is_running : goal.returns-then-is_running
returns-then-is_running g c =
    running_here g.row.S c.self.inside.slim c.loop-place.place c.self.inside.streams.items c.args.self.now
    c.index.result.now c.is_running.result c.self.invariant c.self.view_is (search rules) c.index.ensures
    c.is_running.ensures c.if-is_running.true
    ∙ c.loop-place.invariant
