use Rattle.std.proofs.Common.{rules}
use Rattle.processor.proofs.TableViews.{first_idle, no_idle}
use Rattle.processor.proofs.stream_table.StreamTable.lowest_idle.Goals as goal

pub returns-then-is_idle : goal.returns-then-is_idle
returns-then-is_idle g c =
    first_idle g.row.S c.self.inside.slim c.loop-place.place c.self.inside.streams.items c.args.self.now
    c.index.result.now c.is_idle.result c.self.invariant c.self.view_is (search rules) c.index.ensures
    c.is_idle.ensures c.if-is_idle.true c.loop-place.invariant

pub returns : goal.returns
returns g c =
    no_idle g.row.S c.self.inside.slim c.loop-place.place c.from-slim.result c.self.inside.streams.items
    c.args.self.now c.self.invariant c.self.view_is (search rules) (search rules) c.loop-place.invariant
