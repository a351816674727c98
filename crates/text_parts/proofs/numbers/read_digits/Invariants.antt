-- The digits so far say the number so far.
use Rattle.std.proofs.Common.{◌≡◌, ◌<◌, true, length, take}
use Rattle.std.specs.Str.Parse.{digits_value}
use Rattle.text_parts.specs.Numbers.{base_number, number_from}
use Rattle.text_parts.specs.Reading.{all_in_base}
use Rattle.text_parts.proofs.numbers.read_digits.Given as goal

abbrev pub invariant-loop-digit : goal.invariant-loop-digit
invariant-loop-digit l = record {
  some : 0 < length l.digits;
  all : all_in_base (base_number l.base) (take l.digit-index l.digits) ≡ true;
  value : l.number ≡ number_from (digits_value (base_number l.base) (take l.digit-index l.digits));
}
