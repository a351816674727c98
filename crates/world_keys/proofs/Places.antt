-- Places in tables, also in those that are extended.
use Rattle.std.proofs.Common.{◌≡◌, ℕ, zero, suc, ◌<◌, Bool, true, false, refl, sym, ap, ◌∙◌, arith}
use Rattle.std.proofs.Common.{List, [], ◌∷◌, ◌++◌, length, get_or, cond}
use Rattle.std.proofs.Common.{append-nil, bytes_eq, length-append, append_assoc}
use Rattle.std.proofs.lemmas.Slice.Eq.{bytes_eq-Decides}
use Rattle.world_keys.specs.Tables.{place_in, Has, Extends}

-- What one list more means, by whether it is the one.

at_first : (b : Bool) (x y d : List ℕ) (ys : List (List ℕ)) (n : ℕ) → (b ≡ true → y ≡ x)
    → (b ≡ false → get_or ys n d ≡ x) → get_or (y ∷ ys) (cond b 0 (suc n)) d ≡ x
at_first true x y d ys n here later = here refl
at_first false x y d ys n here later = later refl

inside : (b : Bool) (n m : ℕ) → cond b 0 (suc n) < suc m → b ≡ false → n < m
inside true n m within off = absurd cc
inside false n m within off = omega arith

same_first : (b : Bool) (n m : ℕ) → (b ≡ false → n ≡ m) → cond b 0 (suc n) ≡ cond b 0 (suc m)
same_first true n m later = refl
same_first false n m later = ap (λ k. suc k) (later refl)

outside : (b : Bool) (n m : ℕ) → ¬ (cond b 0 (suc n) < suc m) → (b ≡ false) × ¬ (n < m)
outside true n m never = absurd (never (omega arith))
outside false n m never = (refl, λ within. never (omega arith))

-- Places.

-- at its place stands the list
pub place_get : (t : List (List ℕ)) (x d : List ℕ) → Has t x → get_or t (place_in t x) d ≡ x
unfolding place_in
place_get [] x d has = absurd (omega arith)
place_get (y ∷ ys) x d has =
    at_first (bytes_eq x y) x y d ys (place_in ys x) (λ on. sym ((bytes_eq-Decides x y).0 on))
    (λ off. place_get ys x d (inside (bytes_eq x y) (place_in ys x) (length ys) has off))

-- lists at the same place are the same
pub place_same : (t : List (List ℕ)) (x y : List ℕ) → Has t x → Has t y → place_in t x ≡ place_in t y → x ≡ y
place_same t x y one other same =
    sym (place_get t x [] one) ∙ ap (λ k. get_or t k []) same ∙ place_get t y [] other

-- a list keeps its place
pub place_kept : (t more : List (List ℕ)) (x : List ℕ) → Has t x → place_in (t ++ more) x ≡ place_in t x
unfolding place_in
place_kept [] more x has = absurd (omega arith)
place_kept (y ∷ ys) more x has =
    same_first (bytes_eq x y) (place_in (ys ++ more) x) (place_in ys x)
    (λ off. place_kept ys more x (inside (bytes_eq x y) (place_in ys x) (length ys) has off))

pub place_extended : (old new : List (List ℕ)) (x : List ℕ) → Extends old new → Has old x
    → place_in new x ≡ place_in old x
place_extended old new x grown has = ap (λ t. place_in t x) grown.1 ∙ place_kept old grown.0 x has

pub has_extended : (old new : List (List ℕ)) (x : List ℕ) → Extends old new → Has old x → Has new x
has_extended old new x grown has =
    omega (arith, place_extended old new x grown has, ap length grown.1, length-append old grown.0)

pub extends_refl : (t : List (List ℕ)) → Extends t t
extends_refl t = ([], sym (append-nil t))

pub extends_to : (old new : List (List ℕ)) → new ≡ old → Extends old new
extends_to old new same = ([], same ∙ sym (append-nil old))

pub extends_more : (old new : List (List ℕ)) (x : List ℕ) → new ≡ old ++ x ∷ [] → Extends old new
extends_more old new x is = (x ∷ [], is)

pub extends_trans : (a b c : List (List ℕ)) → Extends a b → Extends b c → Extends a c
extends_trans a b c first second = (
  first.0 ++ second.0,
  second.1 ∙ ap (λ t. t ++ second.0) first.1 ∙ append_assoc a first.0 second.0,
)

-- a list that was not there is put behind the others
pub place_put : (t : List (List ℕ)) (x : List ℕ) → ¬ (Has t x) → place_in (t ++ x ∷ []) x ≡ length t
unfolding place_in
place_put [] x none = ap (λ b. cond b 0 1) ((bytes_eq-Decides x x).1 refl)
place_put (y ∷ ys) x none =
    let apart = outside (bytes_eq x y) (place_in ys x) (length ys) none in
    ap (λ b. cond b 0 (suc (place_in (ys ++ x ∷ []) x))) apart.0
    ∙ ap (λ k. suc k) (place_put ys x apart.1)

pub has_put : (t new : List (List ℕ)) (x : List ℕ) → ¬ (Has t x) → new ≡ t ++ x ∷ [] → Has new x
has_put t new x none is =
    omega (
      arith,
      ap (λ u. place_in u x) is,
      place_put t x none,
      ap length is,
      length-append t (x ∷ []),
    )

later : (b : Bool) (n m : ℕ) → n < m → cond b 0 (suc n) < suc m
later true n m within = omega arith
later false n m within = omega arith

at_once : (b : Bool) (n m : ℕ) → b ≡ true → cond b 0 (suc n) < suc m
at_once true n m on = omega arith
at_once false n m on = absurd cc

-- a table has what stands at a place of it
pub has_at : (t : List (List ℕ)) (k : ℕ) (x d : List ℕ) → k < length t → get_or t k d ≡ x → Has t x
unfolding place_in
has_at [] k x d below is = absurd (omega arith)
has_at (y ∷ ys) zero x d below is =
    at_once (bytes_eq x y) (place_in ys x) (length ys) ((bytes_eq-Decides x y).1 (sym is))
has_at (y ∷ ys) (suc k) x d below is =
    later (bytes_eq x y) (place_in ys x) (length ys) (has_at ys k x d (omega arith) is)
