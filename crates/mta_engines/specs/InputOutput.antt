-- What went in by a reader, and what came out by a writer.
use Rattle.std.specs.Prelude.{◌≡◌, ℕ, List, Option, IfSome}
use Rattle.std.specs.Io.KnownBytes.{Appends}

-- the reader had bytes of which this holds; where its type tells its bytes, they are those
pub record HasInput (told : Option (List ℕ)) (Holds : List ℕ → Type 0) : Type 0 where
  pub bytes : List ℕ
  pub same : IfSome told (λ known. bytes ≡ known)
  pub holds : Holds bytes

-- an output of which this holds stands behind what the writer had; its bytes are known where its type tells them
pub record HasOutput (old new : Option (List ℕ)) (Holds : List ℕ → Type 0) : Type 0 where
  pub output : List ℕ
  pub holds : Holds output
  pub appends : Appends old new output

-- the same of two outputs, each behind what its own writer had
pub record HasOutputs (old_first new_first old_second new_second : Option (List ℕ))
    (Hold : List ℕ → List ℕ → Type 0) : Type 0 where
  pub first : List ℕ
  pub second : List ℕ
  pub hold : Hold first second
  pub appends_first : Appends old_first new_first first
  pub appends_second : Appends old_second new_second second
