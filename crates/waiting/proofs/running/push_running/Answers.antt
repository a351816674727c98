use Rattle.std.proofs.Common.{true, false, sym, ap, ◌∙◌, append-nil, ◌++◌, slice_get, Vec, Global, rules}
use Rattle.machine.specs.ProcessorTypes.Step.{Step}
use Rattle.waiting.specs.Running.{streams_at, running_from}
use Rattle.waiting.proofs.Looking.{one_more_stream, all_streams}
use Rattle.waiting.proofs.running.push_running.Goals as goal
use Rattle.waiting.proofs.running.push_running.Goals.{then-runs+in_ok-push, else-runs}

pub loop-s-preserved : goal.loop-s-preserved
loop-s-preserved g c =
    let w = c.args.machine.now.world in
    let all = c.args.running.now.items ++ running_from c.args.p 0 (streams_at (slice_get w.processors c.args.p)) in
    elim c.if-runs.branch [
      | then-runs+in_ok-push b ↦
          one_more_stream w c.args.p c.loop-s.s all c.loop-s.running.items c.if-runs.running.items true
          c.loop-s.invariant b.if-runs.ensures
          (ap (λ (v : Vec Step Global). v.items) b.running-is ∙ b.in_ok-push.ensures.items)
      | else-runs b ↦
          one_more_stream w c.args.p c.loop-s.s all c.loop-s.running.items c.if-runs.running.items false
          c.loop-s.invariant b.if-runs.ensures
          (ap (λ (v : Vec Step Global). v.items) b.running-is ∙ sym (append-nil c.loop-s.running.items))
    ]

pub returns : goal.returns
returns g c =
    all_streams g.row.S c.args.machine.now c.args.p c.loop-s.s
    (c.args.running.now.items
    ++ running_from c.args.p 0 (streams_at (slice_get c.args.machine.now.world.processors c.args.p)))
    c.loop-s.running.items c.image.ensures.kept c.loop-s.invariant (search rules)
