-- The digits so far say the number so far.
use Rattle.std.proofs.Common.{◌≡◌, true, length, take}
use Rattle.std.specs.Str.Parse.{digits_value}
use Rattle.text_parts.specs.Reading.{all_in_base}
use Rattle.text_parts.proofs.reading.read_hexadecimal.Given as goal

abbrev pub invariant-loop-digit : goal.invariant-loop-digit
invariant-loop-digit l =
    (length l.digits ≡ 16) × (all_in_base 16 (take l.digit-index l.digits) ≡ true)
    × (l.number ≡ digits_value 16 (take l.digit-index l.digits))
