use Rattle.std.proofs.Common.{◌≡◌, ◌<◌, ℕ, refl, sym, ap, ◌∙◌, append-nil, ◌++◌, length, get_or, Option, Vec, Global, rules, arith}
use Rattle.processor.specs.declared.steps.Step.{Step}
use Rattle.waiting.specs.Running.{running_steps}
use Rattle.end_states.specs.EndStates.{waiting_stream, waiting_of}
use Rattle.end_states.specs.declared.states.WaitingStream.{WaitingStream}
use Rattle.end_states.proofs.Waits.{waits_for, waits_for_none, one_more, all_looked_at}
use Rattle.end_states.proofs.states.waiting_streams.Goals as goal
use Rattle.end_states.proofs.states.waiting_streams.Goals.{in-Some+in_ok-push, in_default}

pub loop-stream-preserved : goal.loop-stream-preserved
loop-stream-preserved g c =
    let m = c.args.machine.now in
    let ts = c.deref-stream-items.result.now in
    let done = c.loop-stream.waiting.items in
    let none : Step = record { p = 0; s = 0 } in
    let t : Step = get_or ts c.loop-stream.stream-index none in
    elim c.match-wait_of.branch [
      | in-Some+in_ok-push b ↦
          one_more m ts c.loop-stream.stream-index none (waiting_of m ts) done c.match-wait_of.waiting.items (omega arith)
          c.loop-stream.invariant
          (ap (λ (v : Vec WaitingStream Global). v.items) b.waiting-is
          ∙ b.in_ok-push.ensures.items
          ∙ ap (λ (o : Option ℕ). done ++ waiting_stream t o)
          (sym (waits_for m t b.in-Some.wait ((b.in-Some.ensures.is b.in-Some.wait).0 refl))))
      | in_default b ↦
          one_more m ts c.loop-stream.stream-index none (waiting_of m ts) done c.match-wait_of.waiting.items (omega arith)
          c.loop-stream.invariant
          (ap (λ (v : Vec WaitingStream Global). v.items) b.waiting-is
          ∙ sym (append-nil done)
          ∙ ap (λ (o : Option ℕ). done ++ waiting_stream t o)
          (sym (waits_for_none m t (λ asked. b.in_default.ensures.asked.1 asked))))
    ]

pub returns : goal.returns
returns g c =
    let m = c.args.machine.now in
    let ts = c.deref-stream-items.result.now in
    let all : ts ≡ running_steps m.world = first_of (cc, cc (c.in_ok-running.ensures.is), search rules, grind arith) in
    all_looked_at m ts c.loop-stream.stream-index (waiting_of m ts) c.loop-stream.waiting.items (search rules)
    c.loop-stream.invariant
    ∙ ap (waiting_of m) all
