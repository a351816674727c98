use Rattle.std.proofs.Common.{ap, if◌then◌else◌, arith}
use Rattle.processor.proofs.Current.{counted-here, weighed}
use Rattle.processor.proofs.stream_table.StreamTable.current_among.Goals as goal
use Rattle.processor.proofs.stream_table.StreamTable.current_among.Goals.{then-not-is_idle, else-not-is_idle}

pub loop-place-preserved : goal.loop-place-preserved
loop-place-preserved g c =
    let counted = counted-here g.row.S c.self.inside.slim c.loop-place.place c.loop-place.current
    c.if-not-is_idle.current c.self.inside.streams.items c.args.self.now c.index.result.now c.is_idle.result
    c.self.invariant c.self.view_is (omega (arith, c.loop-place-test.true, c.requires)) c.index.ensures
    c.is_idle.ensures c.loop-place.invariant in
    let goes = weighed c.is_idle.result c.loop-place.current c.if-not-is_idle.current in
    elim c.if-not-is_idle.branch [
      | then-not-is_idle w ↦ counted (goes 1 (ap (λ t. if t then 0 else 1) w.if-not-is_idle.true) w.current-is)
      | else-not-is_idle w ↦
          counted (goes 0 (ap (λ t. if t then 0 else 1) w.if-not-is_idle.false) (omega (arith, w.current-is)))
    ]
