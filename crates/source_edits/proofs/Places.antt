-- Where a label stands there is a place.
use Rattle.std.proofs.Common.{◌≡◌, ◌<◌, Bool, true, List, [], ◌∷◌, length, arith}
use Rattle.std.specs.List.{list_any}

pub some_place : {X : Type 0} (test : X → Bool) (xs : List X) → list_any test xs ≡ true → 0 < length xs
some_place test [] is = absurd (cc)
some_place test (x ∷ xs) is = omega arith
