use Rattle.std.proofs.Common.{rules}
use Rattle.processor.proofs.TableViews.{put_seen}
use Rattle.processor.proofs.stream_table.StreamTable.put.Goals as goal

pub returns-then-place-from : goal.returns-then-place-from
returns-then-place-from g c =
    put_seen c.self.inside.slim c.args.place c.self.inside.streams.items c.args.self.now c.args.stream
    c.self.view_is (search rules)
