-- A printed statement has its head and operands.
use Rattle.std.proofs.Common.{◌≡◌, ℕ, suc, ◌<◌, Bool, true, false, not, ◌&&◌, ◌||◌, List, [], ◌∷◌, ◌++◌}
use Rattle.std.proofs.Common.{length, get_or, map, refl, sym, arith, true≢false}
use Rattle.std.specs.Prelude.{reverse, nat_lt, ◌==◌}
use Rattle.std.specs.List.{list_all}
use Rattle.std.proofs.lemmas.Bool.{and_parts, not-true, lt-ltb, ne_eqb}
use Rattle.std.proofs.lemmas.Bool.Decides.{nat_tests}
use Rattle.std.proofs.lemmas.List.{length-reverse}
use Rattle.asm_line.specs.Text.{is_blank, trim, head, behind_head, operands, operands_of}
use Rattle.text_parts.specs.Pieces.{pieces}
use Rattle.listing_line.specs.WordText.{comma_separated, statement_text}
use Rattle.listing_line.proofs.Bytes.{list_all-imp, list_all-both, list_all-reverse, lacks, before-at, before-lacks}
use Rattle.listing_line.proofs.Bytes.{after-at, after-lacks}
use Rattle.listing_line.proofs.Bytes.{split-at, split-lacks, Starts, IsTrimmed, Ends-append, IsTrimmed-append}
use Rattle.listing_line.proofs.Bytes.{trim-trimmed, trim-blank_before}

-- a byte of a head or an operand: no blank, no comma, and none of : ; |
abbrev pub is_atom : ℕ → Bool
is_atom b = nat_lt 44 b && (nat_lt b 58 || (nat_lt 59 b && nat_lt b 124))

-- a byte of a statement
abbrev pub is_ink : ℕ → Bool
is_ink b = is_atom b || (b == 32 || b == 44)

-- one atom or more
abbrev pub is_term : List ℕ → Bool
is_term [] = false
is_term (x ∷ xs) = list_all is_atom (x ∷ xs)

atom-not_blank : (b : ℕ) → is_atom b ≡ true → not (is_blank b) ≡ true
atom-not_blank b e = grind (arith, nat_tests)

atom-not_comma : (b : ℕ) → is_atom b ≡ true → not (b == 44) ≡ true
atom-not_comma b e = grind (arith, nat_tests)

atom-ink : (b : ℕ) → is_atom b ≡ true → is_ink b ≡ true
atom-ink b e = rw e

pub ink-no_colon : (b : ℕ) → is_ink b ≡ true → not (b == 58) ≡ true
ink-no_colon b e = grind (arith, nat_tests)

pub ink-no_semicolon : (b : ℕ) → is_ink b ≡ true → not (b == 59) ≡ true
ink-no_semicolon b e = grind (arith, nat_tests)

pub ink-no_bar : (b : ℕ) → is_ink b ≡ true → not (b == 124) ≡ true
ink-no_bar b e = grind (arith, nat_tests)

pub atoms-lack_blank : (xs : List ℕ) → list_all is_atom xs ≡ true → lacks is_blank xs ≡ true
atoms-lack_blank xs e = list_all-imp is_atom (λ b. not (is_blank b)) atom-not_blank xs e

atoms-lack_comma : (xs : List ℕ) → list_all is_atom xs ≡ true → lacks (λ b. b == 44) xs ≡ true
atoms-lack_comma xs e = list_all-imp is_atom (λ b. not (b == 44)) atom-not_comma xs e

pub atoms-ink : (xs : List ℕ) → list_all is_atom xs ≡ true → list_all is_ink xs ≡ true
atoms-ink xs e = list_all-imp is_atom is_ink atom-ink xs e

term-starts : (xs : List ℕ) → is_term xs ≡ true → Starts xs
term-starts [] e = absurd (true≢false (sym e))
term-starts (x ∷ xs) e = not-true (is_blank x) (atom-not_blank x (and_parts (is_atom x) (list_all is_atom xs) e).0)

atoms-start : (xs : List ℕ) → list_all is_atom xs ≡ true → 0 < length xs → Starts xs
atoms-start [] e h = absurd (omega arith)
atoms-start (x ∷ xs) e h = term-starts (x ∷ xs) e

term-ends : (xs : List ℕ) → is_term xs ≡ true → Starts (reverse xs)
term-ends [] e = absurd (true≢false (sym e))
term-ends (x ∷ xs) e =
    let some : 0 < length (reverse (x ∷ xs)) = omega (arith, length-reverse (x ∷ xs)) in
    atoms-start (reverse (x ∷ xs)) (list_all-reverse is_atom (x ∷ xs) e) some

pub term-trimmed : (xs : List ℕ) → is_term xs ≡ true → IsTrimmed xs
term-trimmed xs e = record { front = term-starts xs e; back = term-ends xs e }

pub not_empty : (xs : List ℕ) → Starts xs → (length xs == 0) ≡ false
not_empty [] h = absurd (true≢false h)
not_empty (x ∷ xs) h = ne_eqb (suc (length xs)) 0 (omega arith)

pub some_bytes : (xs : List ℕ) → Starts xs → nat_lt 0 (length xs) ≡ true
some_bytes [] h = absurd (true≢false h)
some_bytes (x ∷ xs) h = lt-ltb 0 (suc (length xs)) (omega arith)

-- what a printed statement is
pub record IsStatement (text name : List ℕ) (ops : List (List ℕ)) : Type 0 where
  pub trimmed : IsTrimmed text
  pub ink : list_all is_ink text ≡ true
  pub head_is : head text ≡ name
  pub operands_are : operands text ≡ ops
  pub first : get_or text 0 0 ≡ get_or name 0 0

pub term-atoms : (xs : List ℕ) → is_term xs ≡ true → list_all is_atom xs ≡ true
term-atoms [] e = refl
term-atoms (x ∷ xs) e = e

-- Operands.

abbrev pub all_terms : List (List ℕ) → Bool
all_terms ops = list_all is_term ops

listed-trimmed : (x : List ℕ) (xs : List (List ℕ)) → all_terms (x ∷ xs) ≡ true → IsTrimmed (comma_separated (x ∷ xs))
listed-trimmed x [] e = term-trimmed x (and_parts (is_term x) true e).0
listed-trimmed x (y ∷ ys) e =
    let both = and_parts (is_term x) (all_terms (y ∷ ys)) e in
    let rest = listed-trimmed y ys both.1 in
    IsTrimmed-append x (44 ∷ 32 ∷ comma_separated (y ∷ ys)) (term-starts x both.0)
    (Ends-append (44 ∷ 32 ∷ []) (comma_separated (y ∷ ys)) rest.back)

listed-ink : (ops : List (List ℕ)) → all_terms ops ≡ true → list_all is_ink (comma_separated ops) ≡ true
listed-ink [] e = refl
listed-ink (x ∷ []) e = atoms-ink x (term-atoms x (and_parts (is_term x) true e).0)
listed-ink (x ∷ y ∷ ys) e =
    let both = and_parts (is_term x) (all_terms (y ∷ ys)) e in
    list_all-both is_ink x (44 ∷ 32 ∷ comma_separated (y ∷ ys)) (atoms-ink x (term-atoms x both.0))
    (listed-ink (y ∷ ys) both.1)

-- cut at the commas and trimmed, also behind a blank
cut : (x : List ℕ) (xs : List (List ℕ)) → all_terms (x ∷ xs) ≡ true
    → (map trim (pieces 44 (comma_separated (x ∷ xs))) ≡ x ∷ xs)
    × (map trim (pieces 44 (32 ∷ comma_separated (x ∷ xs))) ≡ x ∷ xs)
cut x [] e =
    let term = (and_parts (is_term x) true e).0 in
    let lone = split-lacks (λ b. b == 44) x (atoms-lack_comma x (term-atoms x term)) in
    let t = term-trimmed x term in
    (rw (lone, trim-trimmed x t), rw (lone, trim-blank_before x t))
cut x (y ∷ ys) e =
    let both = and_parts (is_term x) (all_terms (y ∷ ys)) e in
    let first = split-at (λ b. b == 44) x 44 (32 ∷ comma_separated (y ∷ ys))
    (atoms-lack_comma x (term-atoms x both.0)) refl in
    let t = term-trimmed x both.0 in
    let rest = (cut y ys both.1).1 in
    (rw (first, trim-trimmed x t, rest), rw (first, trim-blank_before x t, rest))

pub statement : (name : List ℕ) (ops : List (List ℕ)) → is_term name ≡ true → all_terms ops ≡ true
    → IsStatement (statement_text name ops) name ops
unfolding head behind_head operands_of trim
statement name [] e es =
    let lack = atoms-lack_blank name (term-atoms name e) in record {
      trimmed = term-trimmed name e;
      ink = atoms-ink name (term-atoms name e);
      head_is = before-lacks is_blank name lack;
      operands_are = rw (after-lacks is_blank name lack) refl;
      first = refl;
    }
statement name (x ∷ xs) e es =
    let lack = atoms-lack_blank name (term-atoms name e) in
    let ops = comma_separated (x ∷ xs) in
    let t = listed-trimmed x xs es in record {
      trimmed = IsTrimmed-append name (32 ∷ ops) (term-starts name e) (Ends-append (32 ∷ []) ops t.back);
      ink = list_all-both is_ink name (32 ∷ ops) (atoms-ink name (term-atoms name e)) (listed-ink (x ∷ xs) es);
      head_is = before-at is_blank name 32 ops lack refl;
      operands_are =
          let filled : (length ops == 0) ≡ false = not_empty ops t.front in
          rw (after-at is_blank name 32 ops lack refl, trim-trimmed ops t, filled) (cut x xs es).0;
      first = first-append name (32 ∷ ops) e;
    }
  where
    first-append : (xs ys : List ℕ) → is_term xs ≡ true → get_or (xs ++ ys) 0 0 ≡ get_or xs 0 0
    first-append [] ys e = absurd (true≢false (sym e))
    first-append (x ∷ xs) ys e = refl
