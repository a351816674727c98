use Rattle.std.proofs.Common.{ap, ◌∙◌, arith, Vec, Global}
use Rattle.stream_waits.specs.declared.waits.StreamWait.{StreamWait}
use Rattle.stream_waits.proofs.Selected.{one_waits, none_waits}
use Rattle.stream_waits.proofs.waits.waits_among.Goals as goal
use Rattle.stream_waits.proofs.waits.waits_among.Goals.{in-Some+in_ok-push, in_default}

pub loop-stream-preserved : goal.loop-stream-preserved
loop-stream-preserved g c =
    elim c.match-wait_at.branch [
      | in-Some+in_ok-push w ↦
          one_waits c.args.machine.now c.args.views.now c.args.streams.now c.loop-stream.waits.items
          c.match-wait_at.waits.items w.in-Some.wait c.loop-stream.stream-index _ (omega arith) c.loop-stream.invariant
          w.in-Some.ensures
          (ap (λ (v : Vec StreamWait Global). v.items) w.waits-is ∙ w.in_ok-push.ensures.items)
      | in_default w ↦
          none_waits c.args.machine.now c.args.views.now c.args.streams.now c.loop-stream.waits.items
          c.match-wait_at.waits.items c.loop-stream.stream-index _ (omega arith) c.loop-stream.invariant
          w.in_default.ensures (ap (λ (v : Vec StreamWait Global). v.items) w.waits-is)
    ]
