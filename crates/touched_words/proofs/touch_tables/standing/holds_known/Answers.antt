use Rattle.std.proofs.Common.{◌<◌, arith}
use Rattle.touched_words.proofs.Registers.{full, all_held}
use Rattle.touched_words.proofs.touch_tables.standing.holds_known.Goals as goal

pub returns : goal.returns
returns c =
    λ yes.
    all_held c.args.row.now c.args.stream.now.registers c.loop-register.register
    (full c.args.stream.now.registers c.reg.result c.reg-else-is_none.result c.reg.ensures.is
    (c.reg.ensures.there.1 (omega arith)) c.reg-else-is_none.ensures.is
    (λ some. let past : 32 < 32 = c.reg-else-is_none.ensures.there.0 some in omega arith))
    (omega arith) c.loop-register.invariant
