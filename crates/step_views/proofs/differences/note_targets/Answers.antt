use Rattle.std.proofs.Common.{arith}
use Rattle.step_views.proofs.Parts.{targets_more, targets_end}
use Rattle.step_views.proofs.differences.note_targets.Goals as goal

pub loop-number-preserved : goal.loop-number-preserved
loop-number-preserved c = record {
  left = λ new rest. c.loop-number.invariant.left new (targets_more c.args.p c.args.s c.args.before.now c.args.after.now
      c.loop-number.number c.loop-number.changes.items c.note_part.new.changes.items new c.loop-number-test.true
      c.note_part.ensures.kept rest);
  few = omega arith;
  capacity = omega arith;
}

pub returns-clause-kept : goal.returns-clause-kept
returns-clause-kept c = c.loop-number.invariant.left c.loop-number.changes.items
    (targets_end c.args.p c.args.s c.args.before.now c.args.after.now c.loop-number.number c.loop-number.changes.items
    c.loop-number-test.false)
