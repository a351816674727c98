use Rattle.std.proofs.Common.{ℕ, ◌+◌, ◌++◌, ◌∙◌, sym, List, get_or, string_bytes}
use Rattle.processor.specs.declared.steps.Step.{Step}
use Rattle.machine.proofs.Worlds.{ran_step, ran_end}
use Rattle.mta_engines.specs.RunOutput.{trace_from}
use Rattle.mta_engines.proofs.Traces.{get_or-any, trace_step, trace_end}
use Rattle.mta_engines.proofs.run.push_trace.Goals as goal

pub loop-index-preserved : goal.loop-index-preserved
loop-index-preserved g c =
    let ts = c.args.schedule.now in
    let i = c.loop-index.index in
    let old = c.loop-index.machine in
    let new = c.step-outcome.new.self in
    let below = c.loop-index-test.true in
    let t : Step = get_or ts i (record { p = 0; s = 0 }) in
    let read = get_or-any ts i (record { p = 0; s = 0 }) t below in
    let text : List ℕ = string_bytes c.loop-index.text in
    let all : List ℕ = string_bytes c.args.text.now
    ++ trace_from c.args.machine.now.image c.args.machine.now.world 1 ts in
    record {
      text =
          trace_step old new c.step-outcome.result t ts i c.pc-pc.result text
          (string_bytes c.push_trace_line.new.text) all below read
          c.step-outcome.ensures.world c.step-outcome.ensures.image c.pc-pc.ensures c.in_ok-push_trace_line.ensures
          c.loop-index.invariant.text;
      world =
          ran_step old new c.step-outcome.result t ts i below read c.step-outcome.ensures.world
          c.step-outcome.ensures.image
          ∙ c.loop-index.invariant.world;
    }

pub returns-clause-text : goal.returns-clause-text
returns-clause-text g c =
    trace_end c.loop-index.machine.image c.loop-index.machine.world
    (c.loop-index.index + 1) c.loop-index.index c.args.schedule.now
    (string_bytes c.loop-index.text)
    (string_bytes c.args.text.now ++ trace_from c.args.machine.now.image c.args.machine.now.world 1
    c.args.schedule.now)
    c.loop-index-test.false c.loop-index.invariant.text

pub returns-clause-world : goal.returns-clause-world
returns-clause-world g c =
    sym (ran_end c.loop-index.machine c.args.schedule.now c.loop-index.index c.loop-index-test.false)
    ∙ c.loop-index.invariant.world
