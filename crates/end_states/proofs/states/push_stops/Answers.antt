use Rattle.std.proofs.Common.{sym, ap, ◌∙◌, append-nil, ◌++◌, slice_get, Option, Vec, Global, rules}
use Rattle.stream_core.specs.declared.traps.TrapKind.{TrapKind}
use Rattle.processor.specs.declared.steps.Step.{Step}
use Rattle.waiting.specs.Running.{streams_at}
use Rattle.end_states.specs.EndStates.{stop_of, stops_from}
use Rattle.end_states.specs.declared.states.TrapStop.{TrapStop}
use Rattle.end_states.proofs.Stops.{one_more_stream, all_streams}
use Rattle.end_states.proofs.states.push_stops.Goals as goal
use Rattle.end_states.proofs.states.push_stops.Goals.{in-Some+in_ok-push, in_default}

pub loop-s-preserved : goal.loop-s-preserved
loop-s-preserved g c =
    let w = c.args.machine.now.world in
    let p = c.args.p in
    let t : Step = record { p = p; s = c.loop-s.s } in
    let all = c.args.stopped.now.items ++ stops_from p 0 (streams_at (slice_get w.processors p)) in
    let done = c.loop-s.stopped.items in
    elim c.match-trap_in.branch [
      | in-Some+in_ok-push b ↦
          one_more_stream w p c.loop-s.s all done c.match-trap_in.stopped.items c.loop-s.invariant
          (ap (λ (v : Vec TrapStop Global). v.items) b.stopped-is
          ∙ b.in_ok-push.ensures.items
          ∙ ap (λ (o : Option TrapKind). done ++ stop_of t o) b.in-Some.ensures)
      | in_default b ↦
          one_more_stream w p c.loop-s.s all done c.match-trap_in.stopped.items c.loop-s.invariant
          (ap (λ (v : Vec TrapStop Global). v.items) b.stopped-is
          ∙ sym (append-nil done)
          ∙ ap (λ (o : Option TrapKind). done ++ stop_of t o) b.in_default.ensures)
    ]

pub returns : goal.returns
returns g c =
    all_streams g.row.S c.args.machine.now c.args.p c.loop-s.s
    (c.args.stopped.now.items
    ++ stops_from c.args.p 0 (streams_at (slice_get c.args.machine.now.world.processors c.args.p)))
    c.loop-s.stopped.items c.image.ensures.kept c.loop-s.invariant (search rules)
