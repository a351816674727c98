-- How things are shared out.
use Rattle.std.specs.Prelude.{List, [], ◌∷◌, ◌++◌, IsPermutation}

-- Things are shared out among holders, each of them to one. P says whether these are the things that a holder has.
pub data AreShared {Y X : Type 0} (P : X → List Y → Type 0) : List Y → List X → Type 0 where
  none : AreShared P [] []
  some : {all rest share : List Y} {x : X} {xs : List X} → P x share → AreShared P rest xs
      → IsPermutation all (share ++ rest) → AreShared P all (x ∷ xs)
