use Rattle.std.proofs.Common.{◌<◌, ◌^◌, arith}
use Rattle.stream_core.proofs.SignedShifts.{shifted_quotient, shifted_zero, shifted_minus_one}
use Rattle.stream_core.proofs.arithmetic.signed_shift_divides.Goals as goal

pub returns-clause-quotient : goal.returns-clause-quotient
returns-clause-quotient c =
    let fits : c.args.a < 2 ^ 64 = omega (arith, c.ranges.a) in shifted_quotient c.args.a c.args.b fits

pub returns-clause-zero : goal.returns-clause-zero
returns-clause-zero c =
    let fits : c.args.a < 2 ^ 64 = omega (arith, c.ranges.a) in shifted_zero c.args.a c.args.b fits

pub returns-clause-minus_one : goal.returns-clause-minus_one
returns-clause-minus_one c =
    let fits : c.args.a < 2 ^ 64 = omega (arith, c.ranges.a) in shifted_minus_one c.args.a c.args.b fits
