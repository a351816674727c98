-- The first byte that a search finds stands at the first place of all.
use Rattle.std.proofs.Common.{◌≡◌, ℕ, Bool, List, length, arith, refl, lt-ltb, le-ltb, Option, Some, None}
use Rattle.std.specs.List.{position}
use Rattle.std.proofs.lemmas.Bool.{false_from_ne_true}
use Rattle.std.proofs.lemmas.List.Sums.{position_or_len_is}
use Rattle.memchr.specs.Find.{IsFirstByte}

pub first_byte_position : (test : ℕ → Bool) (bytes : List ℕ) (r : Option ℕ) → IsFirstByte test bytes r
    → r ≡ position test bytes
first_byte_position test bytes None nowhere =
    let none = position_or_len_is test bytes (length bytes) 0 (omega arith)
    (λ k h. false_from_ne_true _ (nowhere k (omega arith) h)) (λ h. absurd (omega (arith, h))) in
    rw (none, le-ltb (length bytes) (length bytes) (omega arith)) refl
first_byte_position test bytes (Some k) found =
    let at = position_or_len_is test bytes k 0 (omega (arith, found.0.high))
    (λ j h. false_from_ne_true _ (found.0.before j (omega arith) h)) (λ h. found.1) in
    rw (at, lt-ltb k (length bytes) found.0.high) refl
