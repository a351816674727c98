-- Decimal numbers in columns.
use Rattle.std.specs.Prelude.{ℕ, ◌-◌, List, ◌++◌, length, replicate}
use Rattle.std.specs.Fmt.{decimal}

-- with blanks in front, up to the width; a number that needs more places stands whole
abbrev pub right_aligned : ℕ → ℕ → List ℕ
right_aligned width number = replicate (width - length (decimal number)) 32 ++ decimal number
