use Rattle.processor.proofs.TableViews.{any_seen}
use Rattle.processor.proofs.stream_table.StreamTable.stream.Goals as goal

pub returns-then-place : goal.returns-then-place
returns-then-place g c =
    any_seen g.row.S c.self.inside.slim c.args.place c.self.inside.streams.items c.args.self.now c.index.result.now
    c.self.invariant c.self.view_is c.if-place.true c.index.ensures
