-- What holds of each value that a result may have.
use Rattle.std.proofs.Common.{◌≡◌, Bool, true, false, ◌&&◌, if◌then◌else◌, Result, Ok, Err, Option, Some, None, List}
use Rattle.std.proofs.Common.{[], ◌∷◌, ◌++◌, refl, cond}
use Rattle.std.specs.Prelude.{IfOk, IfSome, ⊤}
use Rattle.std.specs.List.{AllByRecursion, find}
use Rattle.asm_line.specs.Faults.{map_ok, ◌>>=◌, both, unless_unknown}
use Rattle.asm_line.specs.declared.fault.Fault.{Fault}

pub ok_both : {A B : Type 0} (P : A → Type 0) (Q : B → Type 0) (r : Result A Fault) (s : Result B Fault)
    → IfOk r P → IfOk s Q → IfOk (both r s) (λ v. P v.0 × Q v.1)
ok_both P Q (Ok x) (Ok y) p q = (p, q)
ok_both P Q (Ok x) (Err f) p q = tt
ok_both P Q (Err e) (Ok y) p q = tt
ok_both P Q (Err e) (Err f) p q = tt

pub ok_map : {A B : Type 0} (f : A → B) (P : A → Type 0) (Q : B → Type 0) (r : Result A Fault)
    → ((x : A) → P x → Q (f x)) → IfOk r P → IfOk (map_ok f r) Q
ok_map f P Q (Ok x) g p = g x p
ok_map f P Q (Err e) g p = tt

pub ok_then : {A B : Type 0} (f : A → Result B Fault) (P : A → Type 0) (Q : B → Type 0) (r : Result A Fault)
    → ((x : A) → P x → IfOk (f x) Q) → IfOk r P → IfOk (r >>= f) Q
ok_then f P Q (Ok x) g p = g x p
ok_then f P Q (Err e) g p = tt

-- whatever the value is
pub ok_any : {A : Type 0} (r : Result A Fault) → IfOk r (λ _. ⊤)
ok_any (Ok x) = tt
ok_any (Err e) = tt

pub ok_if : {A : Type 0} (b : Bool) (x : A) (e : Fault) (Q : A → Type 0) → (b ≡ true → Q x)
    → IfOk (if b then Ok x else Err e) Q
ok_if true x e Q h = h refl
ok_if false x e Q h = tt

pub ok_either : {A : Type 0} (b : Bool) (r s : Result A Fault) (Q : A → Type 0) → IfOk r Q → IfOk s Q
    → IfOk (if b then r else s) Q
ok_either true r s Q p q = p
ok_either false r s Q p q = q

pub ok_known : {A : Type 0} (o : Option A) (Q : A → Type 0) → IfSome o Q → IfOk (unless_unknown o) Q
ok_known None Q h = tt
ok_known (Some x) Q h = h

-- what is found in a table
pub found_in : {A : Type 0} (p : A → Bool) (Q : A → Type 0) (xs : List A) → AllByRecursion Q xs → IfSome (find p xs) Q
found_in p Q [] h = tt
found_in {A} p Q (x ∷ xs) h = by_test (p x) (found_in p Q xs h.1)
  where
    by_test : (b : Bool) → IfSome (find p xs) Q → IfSome (cond b (Some x) (find p xs)) Q
    by_test true k = h.0
    by_test false k = k

-- what is found passes the test
pub found_passes : {A : Type 0} (p : A → Bool) (xs : List A) → IfSome (find p xs) (λ x. p x ≡ true)
found_passes p [] = tt
found_passes {A} p (x ∷ xs) = by_test (p x) refl (found_passes p xs)
  where
    by_test : (b : Bool) → p x ≡ b → IfSome (find p xs) (λ x. p x ≡ true)
        → IfSome (cond b (Some x) (find p xs)) (λ x. p x ≡ true)
    by_test true e k = e
    by_test false e k = k

pub some_any : {A : Type 0} (o : Option A) → IfSome o (λ _. ⊤)
some_any None = tt
some_any (Some x) = tt

pub some_and : {A : Type 0} (P Q R : A → Type 0) (o : Option A) → ((x : A) → P x → Q x → R x) → IfSome o P
    → IfSome o Q → IfSome o R
some_and P Q R None f h k = tt
some_and P Q R (Some x) f h k = f x h k

pub all_append : {A : Type 0} (P : A → Type 0) (xs ys : List A) → AllByRecursion P xs → AllByRecursion P ys
    → AllByRecursion P (xs ++ ys)
all_append P [] ys h k = k
all_append P (x ∷ xs) ys h k = (h.0, all_append P xs ys h.1 k)

pub and_left : (a b : Bool) → (a && b) ≡ true → a ≡ true
and_left true b e = refl
and_left false b e = e

pub and_right : (a b : Bool) → (a && b) ≡ true → b ≡ true
and_right true b e = e
and_right false b e = absurd (false_is_true e)
  where
    false_is_true : false ≡ true → ⊥
    false_is_true e = cc
