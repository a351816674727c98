-- Digit by digit there is room for the next one, and another byte ends the reading.
use Rattle.std.proofs.Common.{◌≡◌, take, Some, sym, ap, ◌∙◌, arith}
use Rattle.std.proofs.lemmas.List.{take_all}
use Rattle.std.proofs.lemmas.Int.Digits.{digits_value_more}
use Rattle.text_parts.proofs.Read.{word_from_digits, no_word_from_length, no_word_at, room_for_digit, one_more_digit}
use Rattle.text_parts.proofs.reading.read_hexadecimal.Goals as goal

pub returns-then-digits-ne-DIGITS : goal.returns-then-digits-ne-DIGITS
returns-then-digits-ne-DIGITS c = sym (no_word_from_length c.args.digits.now c.if-digits-ne-DIGITS.true)

pub overflow_mul-number : goal.overflow_mul-number
overflow_mul-number c =
    let k = c.loop-digit.invariant in
    omega (arith, k.2, room_for_digit c.args.digits.now c.loop-digit.digit-index k.0 c.loop-digit-test.true k.1)

pub returns-in_err-number : goal.returns-in_err-number
returns-in_err-number c =
    let other = c.in_err-number.ensures {u = tt} in
    c.from_residual.ensures ∙ sym (no_word_at c.args.digits.now c.loop-digit.digit-index c.loop-digit-test.true other)

pub overflow_add-number : goal.overflow_add-number
overflow_add-number c =
    let k = c.loop-digit.invariant in
    let d = c.in_ok-number.ensures {u = tt} in
    let room = room_for_digit c.args.digits.now c.loop-digit.digit-index k.0 c.loop-digit-test.true k.1 in
    omega (arith, k.2, d.0, d.1, room)

pub loop-digit-preserved : goal.loop-digit-preserved
loop-digit-preserved c =
    let k = c.loop-digit.invariant in
    let d = c.in_ok-number.ensures {u = tt} in (
      k.0,
      one_more_digit 16 c.args.digits.now c.loop-digit.digit-index c.loop-digit-test.true k.1 d.0,
      omega (arith, k.2, d.1, digits_value_more 16 c.args.digits.now c.loop-digit.digit-index c.loop-digit-test.true),
    )

pub returns : goal.returns
returns c =
    let k = c.loop-digit.invariant in
    let whole : take c.loop-digit.digit-index c.args.digits.now ≡ c.args.digits.now =
    take_all _ c.args.digits.now c.loop-digit-test.false in
    let all = rw whole at k.1 in
    let value = rw whole at k.2 in
    sym (word_from_digits c.args.digits.now k.0 all ∙ ap Some (sym value))
