-- What is read.
use Rattle.std.specs.Prelude.{ℕ}

-- the most bytes that a command takes from one reader
abbrev pub input_limit : ℕ
input_limit = 33554432
