-- Digit by digit from the last one on.
use Rattle.std.proofs.Common.{◌∙◌, ◌-◌, arith}
use Rattle.std.proofs.lemmas.List.{length-set}
use Rattle.text_parts.proofs.Filled.{one_filled, all_filled}
use Rattle.text_parts.proofs.digits.decimal_digits.Goals as goal

pub bounds-digits-place : goal.bounds-digits-place
bounds-digits-place g c =
    let i = c.loop-place.invariant in omega (arith, i.long, i.bound, c.loop-place-test.true)

pub loop-place-preserved : goal.loop-place-preserved
loop-place-preserved g c =
    let i = c.loop-place.invariant in
    let digits = c.loop-place.digits in
    let digit = c.last_decimal_digit.result in
    let same = length-set digits (c.loop-place.place - 1) digit in
    record {
      long = same ∙ i.long;
      bound = omega (arith, i.bound, c.loop-place-test.true, same);
      whole = one_filled 10 c.loop-place.place c.loop-place.rest digit digits _ c.loop-place-test.true i.bound
          c.last_decimal_digit.ensures i.whole;
    }

pub returns : goal.returns
returns g c =
    all_filled 10 c.loop-place.place c.loop-place.rest c.loop-place.digits _ c.loop-place-test.false
    c.loop-place.invariant.whole
