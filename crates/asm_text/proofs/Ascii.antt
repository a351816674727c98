-- A text of ASCII has no other byte.
use Rattle.std.proofs.Common.{◌≡◌, ℕ, List, Option, Some, None, leb, get_or, refl, arith}
use Rattle.std.proofs.lemmas.Bool.{leb-true}
use Rattle.std.proofs.lemmas.List.Quantifiers.{position-Some}
use Rattle.std.specs.List.{position}
use Rattle.std.specs.Str.{IsAscii}

found : (bytes : List ℕ) (r : Option ℕ) → IsAscii bytes → position (λ b. leb 128 b) bytes ≡ r → None ≡ r
found bytes None ascii e = refl
found bytes (Some i) ascii e =
    let at = position-Some (λ b. leb 128 b) bytes i 0 e in
    let large = leb-true 128 (get_or bytes i 0) at.1 in
    absurd (omega (arith, large, ascii i))

pub none_foreign : (bytes : List ℕ) → IsAscii bytes → None ≡ position (λ b. leb 128 b) bytes
none_foreign bytes ascii = found bytes (position (λ b. leb 128 b) bytes) ascii refl
