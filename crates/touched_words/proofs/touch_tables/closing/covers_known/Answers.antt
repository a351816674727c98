use Rattle.std.proofs.Common.{arith}
use Rattle.touched_words.proofs.Writing.{covered}
use Rattle.touched_words.proofs.touch_tables.closing.covers_known.Goals as goal

pub returns : goal.returns
returns c =
    λ yes s value grant h.
    covered c.args.row.now c.args.to.now c.args.insn.now c.loop-register.register (omega arith) c.loop-register.invariant s
    value grant h
