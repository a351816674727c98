use Rattle.std.proofs.Common.{arith}
use Rattle.step_views.proofs.Parts.{registers_more, registers_end}
use Rattle.step_views.proofs.differences.note_registers.Goals as goal

pub loop-number-preserved : goal.loop-number-preserved
loop-number-preserved c = record {
  left = λ new rest. c.loop-number.invariant.left new
      (registers_more c.args.p c.args.s c.args.before.now c.args.after.now
      c.loop-number.number c.loop-number.changes.items c.note_part.new.changes.items new c.loop-number-test.true
      c.note_part.ensures.kept rest);
  few = omega arith;
  capacity = omega arith;
}

pub returns-clause-kept : goal.returns-clause-kept
returns-clause-kept c = c.loop-number.invariant.left c.loop-number.changes.items
    (registers_end c.args.p c.args.s c.args.before.now c.args.after.now c.loop-number.number c.loop-number.changes.items
    c.loop-number-test.false)
