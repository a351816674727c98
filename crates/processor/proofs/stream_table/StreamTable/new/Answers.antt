use Rattle.processor.proofs.TableViews.{new_seen}
use Rattle.processor.proofs.stream_table.StreamTable.new.Goals as goal

pub returns : goal.returns
returns g c =
    new_seen g.row.S c.args.slim c.in_ok-streams.streams.items c.args.first c.idle.result c.requires.some
    c.requires.within c.idle.ensures (c.in_ok-streams.ensures.items_if_clones_equal (λ y e. e))
