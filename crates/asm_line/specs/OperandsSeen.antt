-- What the code holds of operands.
use Rattle.std.specs.Prelude.{◌≡◌, ℕ, List, [], ◌∷◌}
use Rattle.asm_line.specs.declared.arguments.Arguments.{Arguments}
use Rattle.asm_line.specs.declared.arguments.Arguments.TheVariants as arguments

-- four operands or more
pub record AreMore (operands : List (List ℕ)) : Type 0 where
  pub first : List ℕ
  pub second : List ℕ
  pub third : List ℕ
  pub fourth : List ℕ
  pub others : List (List ℕ)
  pub is : operands ≡ first ∷ second ∷ third ∷ fourth ∷ others

abbrev pub AreOperands : Arguments → List (List ℕ) → Type 0
AreOperands arguments.Zero os = os ≡ []
AreOperands (arguments.One x) os = os ≡ x.now ∷ []
AreOperands (arguments.Two x y) os = os ≡ x.now ∷ y.now ∷ []
AreOperands (arguments.Three x y z) os = os ≡ x.now ∷ y.now ∷ z.now ∷ []
AreOperands arguments.More os = AreMore os
