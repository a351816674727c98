-- No run is over.
use Rattle.std.proofs.Common.{sym, ap, subst, arith, refl, List}
use Rattle.processor.specs.declared.recorded_steps.StreamRun.{StreamRun}
use Rattle.processor.specs.StreamRuns.{AreStreamRuns, run_numbers, step_numbers}
use Rattle.processor.proofs.recorded_steps.Steps.of_run.Goals as goal

pub invariant_of-result : goal.invariant_of-result
unfolding run_numbers
invariant_of-result c = (
  subst (λ (rs : List StreamRun). AreStreamRuns rs 0 c.args.s c.args.count) (sym c.new.ensures.items)
      (record { ended = tt; length = refl; first = λ e. refl; apart = tt }),
  omega (arith, c.new.ensures.len),
  omega arith,
)

pub returns : goal.returns
unfolding run_numbers
returns c = λ i. record {
  numbers = ap (λ (rs : List StreamRun). step_numbers rs c.args.s c.args.count) c.new.ensures.items i;
  spare = 0;
}
