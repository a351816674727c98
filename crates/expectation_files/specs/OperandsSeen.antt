-- What the code holds of the words behind the first word of a line.
use Rattle.std.specs.Prelude.{◌≡◌, ℕ, List, [], ◌∷◌}
use Rattle.expectation_files.specs.Words.{words_of}
use Rattle.expectation_files.specs.declared.words.Operands.{Operands}
use Rattle.expectation_files.specs.declared.words.Operands.TheVariants as operands

abbrev pub AreOperands : Operands → List (List ℕ) → Type 0
AreOperands operands.Zero os = os ≡ []
AreOperands (operands.One x) os = os ≡ x.now ∷ []
AreOperands (operands.Two x y) os = os ≡ x.now ∷ y.now ∷ []
AreOperands (operands.Three x y z) os = os ≡ x.now ∷ y.now ∷ z.now ∷ []
AreOperands (operands.More x y z u rest) os = os ≡ x.now ∷ y.now ∷ z.now ∷ u.now ∷ words_of rest.now
