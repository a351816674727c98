-- Bytes that are cut at a byte, and trimmed.
use Rattle.std.proofs.Common.{◌≡◌, ℕ, ◌+◌, Bool, true, false, not, List, [], ◌∷◌, ◌++◌}
use Rattle.std.proofs.Common.{length, get_or, refl, sym, ◌∙◌, arith, append_assoc, true≢false}
use Rattle.std.specs.Prelude.{reverse}
use Rattle.std.specs.List.{list_all, position_or_len, before_first, after_first, slice_split}
use Rattle.std.proofs.lemmas.Bool.{and_parts, and_from, not-true}
use Rattle.std.proofs.lemmas.List.{take_at, drop_at, take_all, drop_all, reverse-append, reverse-reverse}
use Rattle.std.proofs.lemmas.List.{length-append}
use Rattle.std.proofs.lemmas.List.Folds.{list_all-append}
use Rattle.asm_line.specs.Text.{is_blank, skip_blanks, trim}

-- Tests of all bytes.

pub list_all-imp : (p q : ℕ → Bool) → ((b : ℕ) → p b ≡ true → q b ≡ true) → (xs : List ℕ)
    → list_all p xs ≡ true → list_all q xs ≡ true
list_all-imp p q h [] e = refl
list_all-imp p q h (x ∷ xs) e =
    let both = and_parts (p x) (list_all p xs) e in
    and_from (q x) (list_all q xs) (h x both.0) (list_all-imp p q h xs both.1)

pub list_all-both : (p : ℕ → Bool) (xs ys : List ℕ) → list_all p xs ≡ true → list_all p ys ≡ true
    → list_all p (xs ++ ys) ≡ true
list_all-both p xs ys e f = list_all-append p xs ys ∙ and_from (list_all p xs) (list_all p ys) e f

pub list_all-reverse : (p : ℕ → Bool) (xs : List ℕ) → list_all p xs ≡ true → list_all p (reverse xs) ≡ true
list_all-reverse p [] e = refl
list_all-reverse p (x ∷ xs) e =
    let both = and_parts (p x) (list_all p xs) e in
    let last : list_all p (x ∷ []) ≡ true = and_from (p x) true both.0 refl in
    rw (reverse-append (x ∷ []) xs) (list_all-both p (reverse xs) (x ∷ []) (list_all-reverse p xs both.1) last)

-- no byte passes
abbrev pub lacks : (ℕ → Bool) → List ℕ → Bool
lacks q xs = list_all (λ b. not (q b)) xs

-- Cutting.

pub position-lacks : (q : ℕ → Bool) (xs : List ℕ) → lacks q xs ≡ true → position_or_len q xs ≡ length xs
position-lacks q [] e = refl
position-lacks q (x ∷ xs) e =
    let both = and_parts (not (q x)) (lacks q xs) e in
    rw both.0 (omega (arith, position-lacks q xs both.1))

pub position-at : (q : ℕ → Bool) (xs : List ℕ) (y : ℕ) (ys : List ℕ) → lacks q xs ≡ true → q y ≡ true
    → position_or_len q (xs ++ y ∷ ys) ≡ length xs
position-at q [] y ys e h = rw h
position-at q (x ∷ xs) y ys e h =
    let both = and_parts (not (q x)) (lacks q xs) e in
    rw both.0 (omega (arith, position-at q xs y ys both.1 h))

pub before-at : (q : ℕ → Bool) (xs : List ℕ) (y : ℕ) (ys : List ℕ) → lacks q xs ≡ true → q y ≡ true
    → before_first q (xs ++ y ∷ ys) ≡ xs
before-at q xs y ys e h = rw (position-at q xs y ys e h) (take_at xs (y ∷ ys) (length xs) refl)

pub before-lacks : (q : ℕ → Bool) (xs : List ℕ) → lacks q xs ≡ true → before_first q xs ≡ xs
before-lacks q xs e = rw (position-lacks q xs e) (take_all (length xs) xs (omega arith))

pub after-at : (q : ℕ → Bool) (xs : List ℕ) (y : ℕ) (ys : List ℕ) → lacks q xs ≡ true → q y ≡ true
    → after_first q (xs ++ y ∷ ys) ≡ ys
after-at q xs y ys e h =
    rw (position-at q xs y ys e h, sym (append_assoc xs (y ∷ []) ys))
    (drop_at (xs ++ y ∷ []) ys (length xs + 1) (length-append xs (y ∷ [])))

pub after-lacks : (q : ℕ → Bool) (xs : List ℕ) → lacks q xs ≡ true → after_first q xs ≡ []
after-lacks q xs e = rw (position-lacks q xs e) (drop_all (length xs + 1) xs (omega arith))

pub split-at : (q : ℕ → Bool) (xs : List ℕ) (y : ℕ) (ys : List ℕ) → lacks q xs ≡ true → q y ≡ true
    → slice_split q (xs ++ y ∷ ys) ≡ xs ∷ slice_split q ys
split-at q [] y ys e h = rw h
split-at q (x ∷ xs) y ys e h =
    let both = and_parts (not (q x)) (lacks q xs) e in
    let other : q x ≡ false = not-true (q x) both.0 in
    rw (other, split-at q xs y ys both.1 h)

pub split-lacks : (q : ℕ → Bool) (xs : List ℕ) → lacks q xs ≡ true → slice_split q xs ≡ xs ∷ []
split-lacks q [] e = refl
split-lacks q (x ∷ xs) e =
    let both = and_parts (not (q x)) (lacks q xs) e in
    let other : q x ≡ false = not-true (q x) both.0 in
    rw (other, split-lacks q xs both.1)

-- Trimming.

-- the first byte is no blank
abbrev pub Starts : List ℕ → Type 0
Starts xs = is_blank (get_or xs 0 32) ≡ false

-- nor is the last one
pub record IsTrimmed (xs : List ℕ) : Type 0 where
  pub front : Starts xs
  pub back : Starts (reverse xs)

pub Starts-append : (xs ys : List ℕ) → Starts xs → Starts (xs ++ ys)
Starts-append [] ys s = absurd (true≢false s)
Starts-append (x ∷ xs) ys s = s

pub Ends-append : (xs ys : List ℕ) → Starts (reverse ys) → Starts (reverse (xs ++ ys))
Ends-append xs ys s = rw (reverse-append xs ys) (Starts-append (reverse ys) (reverse xs) s)

pub IsTrimmed-append : (xs ys : List ℕ) → Starts xs → Starts (reverse ys) → IsTrimmed (xs ++ ys)
IsTrimmed-append xs ys s e = record { front = Starts-append xs ys s; back = Ends-append xs ys e }

skip-starts : (xs : List ℕ) → Starts xs → skip_blanks xs ≡ xs
skip-starts [] s = refl
skip-starts (x ∷ xs) s = rw s

pub trim-trimmed : (xs : List ℕ) → IsTrimmed xs → trim xs ≡ xs
unfolding trim
trim-trimmed xs t = rw (skip-starts xs t.front, skip-starts (reverse xs) t.back) (reverse-reverse xs)

pub trim-blank_before : (xs : List ℕ) → IsTrimmed xs → trim (32 ∷ xs) ≡ xs
unfolding trim
trim-blank_before xs t = rw (skip-starts xs t.front, skip-starts (reverse xs) t.back) (reverse-reverse xs)

pub trim-blank_behind : (xs : List ℕ) → IsTrimmed xs → trim (xs ++ 32 ∷ []) ≡ xs
unfolding trim
trim-blank_behind xs t =
    rw (
      skip-starts (xs ++ 32 ∷ []) (Starts-append xs (32 ∷ []) t.front),
      reverse-append xs (32 ∷ []),
      skip-starts
          (reverse xs) t.back,
    )
    (reverse-reverse xs)

pub trim-blank_both : (xs : List ℕ) → IsTrimmed xs → trim (32 ∷ (xs ++ 32 ∷ [])) ≡ xs
unfolding trim
trim-blank_both xs t =
    rw (
      skip-starts (xs ++ 32 ∷ []) (Starts-append xs (32 ∷ []) t.front),
      reverse-append xs (32 ∷ []),
      skip-starts
          (reverse xs) t.back,
    )
    (reverse-reverse xs)
