use Rattle.std.proofs.Common.{◌∙◌, sym, arith}
use Rattle.std.proofs.Math.Facts.{Fits-of_lt}
use Rattle.processor.proofs.Turning.{turn-within}
use Rattle.processor.proofs.recorded.Recorded.turn.Goals as goal

pub overflow_cast-result : goal.overflow_cast-result
overflow_cast-result g c =
    let i = c.self.inside in
    let within = turn-within i.processor c.last.result c.in-Some.s (sym c.turn_after.ensures ∙ c.in-Some.is) in
    let slim = c.slim.ensures in
    Fits-of_lt (omega (arith, within, c.self.invariant.2, slim.is, slim.few))
