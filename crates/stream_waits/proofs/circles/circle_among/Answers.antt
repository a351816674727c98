use Rattle.std.proofs.Common.{arith}
use Rattle.stream_waits.proofs.Walks.{circle_found}
use Rattle.stream_waits.proofs.FindingCircles.{none_below_more, no_circle}
use Rattle.stream_waits.proofs.circles.circle_among.Goals as goal

pub returns-then-len-ge2-clause-sound : goal.returns-then-len-ge2-clause-sound
returns-then-len-ge2-clause-sound c =
    λ some. circle_found c.args.waits.now _ c.in_ok-way.way.items c.in_ok-way.ensures (omega arith)

pub loop-wait-preserved : goal.loop-wait-preserved
loop-wait-preserved c =
    none_below_more c.args.waits.now c.in_ok-way.way.items c.loop-wait.wait-index _ (omega arith) c.in_ok-way.ensures
    (omega arith) c.loop-wait.invariant

pub returns-clause-complete : goal.returns-clause-complete
returns-clause-complete c =
    λ none. no_circle c.args.waits.now c.loop-wait.wait-index (omega arith) c.loop-wait.invariant
