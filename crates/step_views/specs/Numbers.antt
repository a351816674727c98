-- Contents as numbers.
use Rattle.std.specs.Prelude.{ℕ, Option, Some, None}
use Rattle.stream_core.specs.Arithmetic.{bit_number}
use Rattle.stream_core.specs.StatusWords.{codes_number, mask_number, status_number}
use Rattle.step_views.specs.declared.places.Content.{Content}
use Rattle.step_views.specs.declared.places.Content.TheVariants as content

-- what stands in a place, as a number; none of a status
abbrev pub number_of : Content → Option ℕ
number_of (content.Number n) = Some n
number_of (content.Codes c) = Some (codes_number c)
number_of (content.Mask m) = Some (mask_number m)
number_of (content.InTrap b) = Some (bit_number b)
number_of (content.Status s) = None
number_of (content.Target w) = Some (status_number w)
number_of (content.Tags t) = Some t.0
