-- Parts one after another: what is written is read back, and what is read is written back.
use Rattle.std.proofs.Common.{◌≡◌, ℕ, zero, suc, ◌+◌, ◌-◌, ◌*◌, ◌<◌, ◌≤◌, List, [], ◌∷◌, ◌++◌, length, map, take}
use Rattle.std.proofs.Common.{drop}
use Rattle.std.proofs.Common.{get_or, refl, sym, ap, ◌∙◌, append_assoc, arith, length-append}
use Rattle.std.specs.List.{flat_map, AllByRecursion}
use Rattle.std.proofs.lemmas.List.{take-append-drop, drop-drop, drop_at, get_or-drop, length-drop}
use Rattle.image_file.specs.Fields.{IsBytes, parts_of}

pub IsBytes-drop : (n : ℕ) (bytes : List ℕ) → IsBytes bytes → IsBytes (drop n bytes)
IsBytes-drop n bytes are_bytes k = rw get_or-drop (are_bytes (n + k))

pub length-parts_of : {X : Type 0} (size : ℕ) (value : List ℕ → X) (count : ℕ) (bytes : List ℕ)
    → length (parts_of size value count bytes) ≡ count
unfolding parts_of
length-parts_of size value zero bytes = refl
length-parts_of size value (suc n) bytes =
    let e = length-parts_of size value n (drop size bytes) in omega (arith, e)

pub get_or-parts_of : {X : Type 0} (size : ℕ) (value : List ℕ → X) (count : ℕ) (bytes : List ℕ) (k : ℕ) (d : X)
    → k < count → get_or (parts_of size value count bytes) k d ≡ value (drop (size * k) bytes)
unfolding parts_of
get_or-parts_of size value zero bytes k d here = absurd (omega arith)
get_or-parts_of size value (suc n) bytes zero d here =
    let none : size * 0 ≡ 0 = omega arith in rw none refl
get_or-parts_of size value (suc n) bytes (suc k) d here =
    let more : size + size * k ≡ size * suc k = omega arith in
    get_or-parts_of size value n (drop size bytes) k d (omega arith)
    ∙ ap value (drop-drop (size * k) size bytes ∙ ap (λ (m : ℕ). drop m bytes) more)

-- one part less to read
pub parts_of-step : {X : Type 0} (size : ℕ) (value : List ℕ → X) (count i : ℕ) (bytes : List ℕ) → i < count
    → parts_of size value (count - i) bytes ≡ value bytes ∷ parts_of size value (count - (i + 1)) (drop size bytes)
unfolding parts_of
parts_of-step size value count i bytes here =
    let one : count - i ≡ suc (count - (i + 1)) = omega arith in ap (λ k. parts_of size value k bytes) one

pub parts_of-end : {X : Type 0} (size : ℕ) (value : List ℕ → X) (count i : ℕ) (bytes : List ℕ) → count ≤ i
    → parts_of size value (count - i) bytes ≡ []
unfolding parts_of
parts_of-end size value count i bytes past =
    let none : count - i ≡ 0 = omega arith in ap (λ k. parts_of size value k bytes) none

regrouped : {X : Type 0} (write : X → List ℕ) (x : X) (xs : List X) (rest : List ℕ)
    → flat_map write (x ∷ xs) ++ rest ≡ write x ++ (flat_map write xs ++ rest)
regrouped write x xs rest = append_assoc (write x) (flat_map write xs) rest

-- how one part is written, and what is read of it where it has P
pub record IsWritten {X Y : Type 0} (P : X → Type 0) (size : ℕ) (value : List ℕ → Y) (write : X → List ℕ)
    (seen : X → Y)
    : Type 0 where
  pub sized : (x : X) → length (write x) ≡ size
  pub again : (x : X) (rest : List ℕ) → P x → value (write x ++ rest) ≡ seen x

-- what is written is read back
pub parts_seen : {X Y : Type 0} (P : X → Type 0) (size : ℕ) (value : List ℕ → Y) (write : X → List ℕ) (seen : X → Y)
    → IsWritten P size value write seen → (xs : List X) (rest : List ℕ) → AllByRecursion P xs
    → parts_of size value (length xs) (flat_map write xs ++ rest) ≡ map seen xs
unfolding parts_of
parts_seen P size value write seen w [] rest all = refl
parts_seen P size value write seen w (x ∷ xs) rest all =
    let tail = flat_map write xs ++ rest in
    let first : value (flat_map write (x ∷ xs) ++ rest) ≡ seen x =
    ap value (regrouped write x xs rest) ∙ w.again x tail all.0 in
    let after : drop size (flat_map write (x ∷ xs) ++ rest) ≡ tail =
    ap (drop size) (regrouped write x xs rest) ∙ drop_at (write x) tail size (w.sized x) in
    let others : parts_of size value (length xs) (drop size (flat_map write (x ∷ xs) ++ rest)) ≡ map seen xs =
    ap (parts_of size value (length xs)) after ∙ parts_seen P size value write seen w xs rest all.1 in
    λ i. first i ∷ others i

same_parts : {X : Type 0} (xs : List X) → map (λ x. x) xs ≡ xs
same_parts [] = refl
same_parts (x ∷ xs) = ap (λ ys. x ∷ ys) (same_parts xs)

pub parts_again : {X : Type 0} (P : X → Type 0) (size : ℕ) (value : List ℕ → X) (write : X → List ℕ)
    → IsWritten P size value write (λ x. x) → (xs : List X) (rest : List ℕ) → AllByRecursion P xs
    → parts_of size value (length xs) (flat_map write xs ++ rest) ≡ xs
parts_again P size value write w xs rest all =
    parts_seen P size value write (λ x. x) w xs rest all ∙ same_parts xs

pub length-written : {X : Type 0} (size : ℕ) (write : X → List ℕ) → ((x : X) → length (write x) ≡ size)
    → (xs : List X) → length (flat_map write xs) ≡ size * length xs
length-written size write sized [] = omega arith
length-written size write sized (x ∷ xs) =
    let others = length-written size write sized xs in
    let first = sized x in
    omega (arith, length-append (write x) (flat_map write xs))

-- what is read is written back, where each part in front may be
pub parts_back : {X : Type 0} (Q : List ℕ → Type 0) (size : ℕ) (value : List ℕ → X) (write : X → List ℕ)
    → ((bytes : List ℕ) → Q bytes → size ≤ length bytes → write (value bytes) ≡ take size bytes)
    → (count : ℕ) (bytes : List ℕ) → size * count ≤ length bytes
    → ((k : ℕ) → k < count → Q (drop (size * k) bytes))
    → bytes ≡ flat_map write (parts_of size value count bytes) ++ drop (size * count) bytes
unfolding parts_of
parts_back Q size value write back zero bytes long all =
    let none : size * 0 ≡ 0 = omega arith in rw none refl
parts_back Q size value write back (suc n) bytes long all =
    let rest = drop size bytes in
    let more : size + size * n ≡ size * suc n = omega arith in
    let here : size ≤ length bytes = omega arith in
    let none : size * 0 ≡ 0 = omega arith in
    let first : Q bytes = rw none at (all 0 (omega arith)) in
    let others : (k : ℕ) → k < n → Q (drop (size * k) rest) =
    λ k below. let more : size + size * k ≡ size * suc k = omega arith in
    rw (drop-drop (size * k) size bytes, more) (all (suc k) (omega arith)) in
    let room : size * n ≤ length rest = omega (arith, length-drop size bytes) in
    let tail = parts_back Q size value write back n rest room others in
    let past : drop (size * n) rest ≡ drop (size * suc n) bytes =
    drop-drop (size * n) size bytes ∙ ap (λ (m : ℕ). drop m bytes) more in
    let written = back bytes first here in
    sym (take-append-drop size bytes)
    ∙ (λ i. sym written i ++ (tail ∙ ap (λ (r : List ℕ). flat_map write (parts_of size value n rest) ++ r) past) i)
    ∙ sym (append_assoc (write (value bytes)) (flat_map write (parts_of size value n rest))
    (drop (size * suc n) bytes))

pub parts_all : {X : Type 0} (P : X → Type 0) (size : ℕ) (value : List ℕ → X)
    → ((bytes : List ℕ) → IsBytes bytes → P (value bytes)) → (count : ℕ) (bytes : List ℕ) → IsBytes bytes
    → AllByRecursion P (parts_of size value count bytes)
unfolding parts_of
parts_all P size value each zero bytes are_bytes = tt
parts_all P size value each (suc n) bytes are_bytes =
    (each bytes are_bytes, parts_all P size value each n (drop size bytes) (IsBytes-drop size bytes are_bytes))
