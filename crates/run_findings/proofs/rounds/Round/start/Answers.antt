use Rattle.std.proofs.Common.{arith, ⊎_elim}
use Rattle.std.proofs.lemmas.Bool.{cases_lt}
use Rattle.run_findings.proofs.rounds.Round.start.Goals as goal

pub loop-start-preserved : goal.loop-start-preserved
loop-start-preserved c = record {
  within = omega arith;
  step_within = omega arith;
  parted = λ a k h. ⊎_elim
      (λ low. c.loop-start.invariant.parted a k low)
      (λ high. c.opening-first.ensures.parted a k c.args.place (omega arith) (omega arith))
      (cases_lt k c.loop-start.start);
}
