-- Bytes that are text, as the code tells the call that takes them for it.
use Rattle.std.specs.Prelude.{ℕ, List}
use Rattle.std.specs.Str.{IsUtf8}

pub record IsText (bytes : List ℕ) : Type 0 where
  pub utf8 : IsUtf8 bytes
