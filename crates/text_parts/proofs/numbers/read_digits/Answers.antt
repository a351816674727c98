-- Digit by digit the number goes on, and another byte ends the reading.
use Rattle.std.proofs.Common.{◌≡◌, ◌+◌, ◌*◌, ℕ, length, take, rules, Some, sym, ap, ◌∙◌}
use Rattle.std.proofs.lemmas.Int.Digits.{digits_value_more}
use Rattle.std.proofs.lemmas.List.{take_all}
use Rattle.std.specs.Option.{option_map}
use Rattle.std.specs.Str.Parse.{digits_value}
use Rattle.text_parts.specs.Numbers.{base_number, number_from}
use Rattle.text_parts.proofs.Read.{number_from_digits, no_number_from_none, no_number_at, one_more_digit}
use Rattle.text_parts.proofs.numbers.read_digits.Goals as goal

pub returns-then-is_empty : goal.returns-then-is_empty
returns-then-is_empty c =
    let base = base_number c.args.base in
    let none : length c.args.digits.now ≡ 0 = search rules in
    sym (ap (option_map number_from) (no_number_from_none base c.args.digits.now none))

pub returns-in_err-value : goal.returns-in_err-value
returns-in_err-value c =
    let base = base_number c.args.base in
    let other = c.in_err-value.ensures {u = tt} in
    let none = no_number_at base c.args.digits.now c.loop-digit.digit-index c.loop-digit-test.true other in
    c.from_residual.ensures ∙ sym (ap (option_map number_from) none)

pub loop-digit-preserved : goal.loop-digit-preserved
loop-digit-preserved c =
    let base = base_number c.args.base in
    let digits = c.args.digits.now in
    let k = c.loop-digit.invariant in
    let d = c.in_ok-value.ensures {u = tt} in
    let before = digits_value base (take c.loop-digit.digit-index digits) in
    let next : before * base + c.in_ok-value.value ≡ digits_value base (take (c.loop-digit.digit-index + 1) digits) =
    ap (λ (digit : ℕ). before * base + digit) d.1
    ∙ sym (digits_value_more base digits c.loop-digit.digit-index c.loop-digit-test.true) in
    record {
      some = k.some;
      all = one_more_digit base digits c.loop-digit.digit-index c.loop-digit-test.true k.all d.0;
      value = c.followed_by-number.ensures before k.value ∙ ap number_from next;
    }

pub returns : goal.returns
returns c =
    let base = base_number c.args.base in
    let digits = c.args.digits.now in
    let k = c.loop-digit.invariant in
    let whole : take c.loop-digit.digit-index digits ≡ digits = take_all _ digits c.loop-digit-test.false in
    let all = rw whole at k.all in
    let value = rw whole at k.value in
    sym (ap (option_map number_from) (number_from_digits base digits k.some all) ∙ ap Some (sym value))
