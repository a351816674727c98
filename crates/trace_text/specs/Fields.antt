-- The field behind the first two, which may be absent.
use Rattle.std.specs.Prelude.{ℕ, List, Option, Some, None}
use Rattle.trace_text.specs.ScheduleLines.{decimal_number}

-- the number of times that a field behind the first two says
abbrev pub times_in : Option (List ℕ) → Option ℕ
times_in None = Some 1
times_in (Some digits) = decimal_number digits
