use Rattle.std.proofs.Common.{sym, ap, ◌∙◌, arith}
use Rattle.run_findings.specs.Sought.{is_sought}
use Rattle.run_findings.specs.TornReads.{is_later}
use Rattle.run_findings.proofs.Before.{last-before}
use Rattle.run_findings.proofs.Chains.{old-not-later, here-later}
use Rattle.run_findings.proofs.searching.is_any_after.Goals as goal

pub returns-then-place-first : goal.returns-then-place-first
returns-then-place-first c =
    sym (old-not-later c.args.first (is_sought c.args.sought c.args.address) c.args.actions.now c.loop-place.place
    (omega arith))
    ∙ c.loop-place.invariant.same

pub returns-then-is : goal.returns-then-is
returns-then-is c =
    sym (here-later c.args.first (is_sought c.args.sought c.args.address) c.args.actions.now c.loop-place.place _
    (omega arith) (omega arith) (sym c.is.ensures ∙ c.if-is.true))
    ∙ c.loop-place.invariant.same

pub loop-place-preserved : goal.loop-place-preserved
loop-place-preserved c = record {
  same =
      ap (is_later c.args.first)
      (last-before (is_sought c.args.sought c.args.address) c.args.actions.now c.loop-place.place _ c.loop-place-test.true
      (omega arith) (sym c.is.ensures ∙ c.if-is.false))
      ∙ c.loop-place.invariant.same;
  within = omega arith;
}
