use Rattle.std.proofs.Common.{◌+◌, ◌<◌, length, arith, sym, ap, ◌∙◌}
use Rattle.std.proofs.Common.{Result, Ok, Err}
use Rattle.std.specs.Prelude.{OnErr}
use Rattle.std.proofs.lemmas.List.{length_push}
use Rattle.processor.specs.Records.{RecordValue}
use Rattle.processor.specs.declared.steps.NextStep.{NextStep}
use Rattle.processor.specs.Turns.{last_of}
use Rattle.processor.proofs.Turning.{turn-skip, turn-none}
use Rattle.memory_lock.proofs.Growing.{grown-local, grown-ask, made-local, made-ask, finished-none, may-ask}
use Rattle.memory_lock.proofs.driving.drive.Goals as goal
use Rattle.memory_lock.proofs.driving.drive.Goals.{in-Local, in-Ask+in_ok-reply-in-Ask}

on-err : {T E P : Type 0} (r : Result T E) → P → OnErr r P
on-err (Ok x) p = tt
on-err (Err e) p = p

pub unreachable-requires : goal.unreachable-requires
unreachable-requires g c =
    turn-skip c.loop.worker.image c.loop.worker.state (last_of c.loop.worker.steps) c.in-Some.s (sym c.in-Some.ensures)
    (sym (ap (λ (t : NextStep). t.next) c.next_step-step.ensures) ∙ c.in-Skip.is)

pub loop-preserved-in-Some-next_short : goal.loop-preserved-in-Some-next_short
loop-preserved-in-Some-next_short g c =
    let v = c.loop.invariant in
    let turn = sym c.in-Some.ensures in
    let is = c.finish_short.ensures.after in (
      grown-local _ _ _ _ _ _ c.number-p.ensures.kept turn v.0 (omega (arith, v.3, c.loop-test.true)) is,
      made-local c.args.worker.now c.loop.worker c.finish_short.new.self _ _ v.1
          (ap (λ (r : RecordValue). r.pairs) is),
      v.2,
      ap (λ (r : RecordValue). length r.steps) is ∙ length_push c.loop.worker.steps c.in-Some.s
          ∙ ap (λ k. k + 1) v.3,
    )

pub loop-preserved : goal.loop-preserved
loop-preserved g c =
    let v = c.loop.invariant in
    let room : length c.loop.worker.steps < c.args.fuel = omega (arith, v.3, c.loop-test.true) in
    let turn = sym c.in-Some.ensures in
    elim c.match-step.branch [
      | in-Local w ↦
          let is = w.worker-is ∙ w.finish_local.ensures.after in (
            grown-local _ _ _ _ _ _ c.number-p.ensures.kept turn v.0 room is,
            ap g.P.Port.made w.port-is
                ∙ made-local c.args.worker.now c.loop.worker c.match-step.worker _ _ v.1
                (ap (λ (r : RecordValue). r.pairs) is),
            ap g.P.Port.is_refused w.port-is ∙ v.2,
            ap (λ (r : RecordValue). length r.steps) is ∙ length_push c.loop.worker.steps c.in-Some.s
                ∙ ap (λ k. k + 1) v.3,
          )
      | in-Ask+in_ok-reply-in-Ask w ↦
          let is = w.worker-is ∙ w.finish_reply.ensures.after in
          let told = w.in_ok-reply-in-Ask.ensures in (
            grown-ask _ _ _ _ _ _ _ c.number-p.ensures.kept turn v.0 room is,
            made-ask c.args.fuel c.args.worker.now c.loop.worker _ _ _ _ c.number-p.result c.match-step.worker v.0
                v.1 (c.number-p.ensures.is ∙ v.0.number) (ap g.P.Port.made w.port-is ∙ told.ok)
                (ap (λ (r : RecordValue). r.pairs) is),
            ap g.P.Port.is_refused w.port-is ∙ told.keeps ∙ v.2,
            ap (λ (r : RecordValue). length r.steps) is ∙ length_push c.loop.worker.steps c.in-Some.s
                ∙ ap (λ k. k + 1) v.3,
          )
    ]

pub returns-in_default-clause-finished : goal.returns-in_default-clause-finished
returns-in_default-clause-finished g c =
    finished-none c.args.fuel c.loop.worker
    (turn-none c.loop.worker.state (last_of c.loop.worker.steps) (sym c.in_default.ensures))

pub returns-in_err-reply-in-Ask-clause-asks : goal.returns-in_err-reply-in-Ask-clause-asks
returns-in_err-reply-in-Ask-clause-asks g c =
    let w = c.loop.worker in
    let short : length w.steps < c.args.fuel = omega (arith, c.loop.invariant.3, c.loop-test.true) in
    let asks = may-ask c.args.fuel w c.in-Some.s c.next_step-step.result c.in-Ask.request short
    (sym c.in-Some.ensures) c.next_step-step.ensures c.in-Ask.is in
    on-err c.from_residual.result asks
