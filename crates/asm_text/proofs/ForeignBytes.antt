-- The line of the first byte that is not ASCII is the least line with such a byte.
use Rattle.std.proofs.Common.{◌≡◌, ℕ, zero, suc, ◌+◌, ◌<◌, Bool, true, false, not, cond, eqb, ltb, leb, List, [], ◌∷◌}
use Rattle.std.proofs.Common.{length, take, slice_get, Option, Some, None, option_map, refl, sym, ◌∙◌, ap, subst}
use Rattle.std.proofs.Common.{arith}
use Rattle.std.proofs.Common.{◌↔◌, ◌++◌, lt-ltb, true≢false}
use Rattle.std.specs.Prelude.{◌||◌}
use Rattle.std.specs.Str.{IsAscii, IsNotAscii}
use Rattle.std.specs.List.{list_any, position, position_or_len, onto_first}
use Rattle.std.proofs.lemmas.Bool.{false≢true, eqb-true, leb-true, leb-false}
use Rattle.std.proofs.lemmas.Bool.Decides.{nat_tests}
use Rattle.std.proofs.lemmas.List.Sums.{sum_by-cons}
use Rattle.text_parts.specs.Pieces.{pieces}
use Rattle.asm_text.specs.Sources.{line_of, not_ascii}
use Rattle.asm_text.specs.FaultLaws.{IsFirstNotAscii}

-- The first element that passes a test.

abbrev first_at : {X : Type 0} → (X → Bool) → List X → Option ℕ
first_at p [] = None
first_at p (x ∷ xs) = cond (p x) (Some 0) (option_map (λ (n : ℕ). suc n) (first_at p xs))

shifted : (m n : ℕ) → ltb (1 + m) (suc n) ≡ ltb m n
shifted m n = grind (arith, nat_tests)

same_some : (m n : ℕ) → m ≡ n → ◌≡◌ {A = Option ℕ} (Some m) (Some n)
same_some m n e = λ i. Some (e i)

one_more : (t : Bool) (m : ℕ)
    → ◌≡◌ {A = Option ℕ} (cond t (Some (1 + m)) None) (option_map (λ (n : ℕ). suc n) (cond t (Some m) None))
one_more true m = same_some (1 + m) (suc m) (omega arith)
one_more false m = refl

by_head : (b : Bool) (m n : ℕ)
    → ◌≡◌ {A = Option ℕ} (cond (ltb (cond (not b) (1 + m) 0) (suc n)) (Some (cond (not b) (1 + m) 0)) None)
    (cond b (Some 0) (option_map (λ (k : ℕ). suc k) (cond (ltb m n) (Some m) None)))
by_head true m n = ap (λ t. cond t (Some 0) None) (lt-ltb 0 (suc n) (omega arith))
by_head false m n = ap (λ t. cond t (Some (1 + m)) None) (shifted m n) ∙ one_more (ltb m n) m

position_is : {X : Type 0} (p : X → Bool) (xs : List X) → position p xs ≡ first_at p xs
position_is p [] = refl
position_is p (x ∷ xs) =
    by_head (p x) (position_or_len p xs) (length xs)
    ∙ ap (λ o. cond (p x) (Some 0) (option_map (λ (n : ℕ). suc n) o)) (position_is p xs)

record IsFirst {X : Type 0} (p : X → Bool) (xs : List X) (k : ℕ) : Type 0 where
  element : X
  stands : slice_get xs k ≡ Some element
  passes : p element ≡ true
  before : (j : ℕ) (y : X) → j < k → slice_get xs j ≡ Some y → p y ≡ false

none_before : {X : Type 0} (p : X → Bool) (x : X) (xs : List X) (n : ℕ) → p x ≡ false → IsFirst p xs n
    → (j : ℕ) (y : X) → j < suc n → slice_get (x ∷ xs) j ≡ Some y → p y ≡ false
none_before p x xs n test f zero y less is = let at : x ≡ y = cc in subst (λ z. p z ≡ false) at test
none_before p x xs n test f (suc j) y less is = f.before j y (omega arith) is

found_by : {X : Type 0} (p : X → Bool) (x : X) (xs : List X) (k : ℕ) (b : Bool) (o : Option ℕ) → p x ≡ b
    → cond b (Some 0) (option_map (λ (n : ℕ). suc n) o) ≡ Some k
    → ((n : ℕ) → o ≡ Some n → IsFirst p xs n)
    → IsFirst p (x ∷ xs) k
found_by p x xs k true o test is rest =
    let at : 0 ≡ k = cc in
    subst (IsFirst p (x ∷ xs)) at
    (record { element = x; stands = refl; passes = test; before = λ j y less here. absurd (omega arith) })
found_by p x xs k false None test is rest = absurd cc
found_by p x xs k false (Some n) test is rest =
    let at : suc n ≡ k = cc in
    let f = rest n refl in
    subst (IsFirst p (x ∷ xs)) at
    (record { element = f.element; stands = f.stands; passes = f.passes; before = none_before p x xs n test f })

found : {X : Type 0} (p : X → Bool) (xs : List X) (k : ℕ) → first_at p xs ≡ Some k → IsFirst p xs k
found p [] k is = absurd cc
found p (x ∷ xs) k is = found_by p x xs k (p x) (first_at p xs) refl is (found p xs)

is_found : {X : Type 0} (p : X → Bool) (xs : List X) (k : ℕ) → IsFirst p xs k → first_at p xs ≡ Some k
is_found {X = X} p [] k f = let no : ◌≡◌ {A = Option X} None (Some f.element) = f.stands in absurd cc
is_found {X = X} p (x ∷ xs) zero f =
    let here : ◌≡◌ {A = Option X} (Some x) (Some f.element) = f.stands in
    let at : f.element ≡ x = cc in
    ap (λ b. cond b (Some 0) (option_map (λ (n : ℕ). suc n) (first_at p xs)))
    (subst (λ z. p z ≡ true) at f.passes)
is_found p (x ∷ xs) (suc k) f =
    ap (λ b. cond b (Some 0) (option_map (λ (n : ℕ). suc n) (first_at p xs))) (f.before 0 x (omega arith) refl)
    ∙ ap (option_map (λ (n : ℕ). suc n)) (is_found p xs k (record {
      element = f.element;
      stands = f.stands;
      passes = f.passes;
      before = λ j y less is. f.before (suc j) y (omega arith) is;
    }))

none_any : {X : Type 0} (p : X → Bool) (xs : List X) → first_at p xs ≡ None → list_any p xs ≡ false
none_any p [] is = refl
none_any p (x ∷ xs) is = by (p x) (first_at p xs) is (none_any p xs)
  where
    by : (b : Bool) (o : Option ℕ) → cond b (Some 0) (option_map (λ (n : ℕ). suc n) o) ≡ None
        → (o ≡ None → list_any p xs ≡ false) → (b || list_any p xs) ≡ false
    by true o e rest = absurd cc
    by false None e rest = rest refl
    by false (Some n) e rest = absurd cc

any_none : {X : Type 0} (p : X → Bool) (xs : List X) → list_any p xs ≡ false → first_at p xs ≡ None
any_none p [] is = refl
any_none p (x ∷ xs) is = by (p x) is (any_none p xs)
  where
    by : (b : Bool) → (b || list_any p xs) ≡ false → (list_any p xs ≡ false → first_at p xs ≡ None)
        → cond b (Some 0) (option_map (λ (n : ℕ). suc n) (first_at p xs)) ≡ None
    by true e rest = absurd (true≢false e)
    by false e rest = ap (option_map (λ (n : ℕ). suc n)) (rest e)

-- Bytes that are not ASCII.

abbrev foreign : ℕ → Bool
foreign b = leb 128 b

abbrev has_foreign : List ℕ → Bool
has_foreign bs = list_any foreign bs

some_by : (x : ℕ) (xs : List ℕ) (b : Bool) → foreign x ≡ b → (b || has_foreign xs) ≡ true
    → (has_foreign xs ≡ true → IsNotAscii xs) → IsNotAscii (x ∷ xs)
some_by x xs true test e rest = (0, leb-true 128 x test)
some_by x xs false test e rest = let r = rest e in (suc r.0, r.1)

some_foreign : (bs : List ℕ) → has_foreign bs ≡ true → IsNotAscii bs
some_foreign [] e = absurd (false≢true e)
some_foreign (x ∷ xs) e = some_by x xs (foreign x) refl e (some_foreign xs)

none_by : (x : ℕ) (xs : List ℕ) (b : Bool) → foreign x ≡ b → (b || has_foreign xs) ≡ false
    → (has_foreign xs ≡ false → IsAscii xs) → IsAscii (x ∷ xs)
none_by x xs true test e rest = absurd (true≢false e)
none_by x xs false test e rest = at
  where
    at : IsAscii (x ∷ xs)
    at zero = leb-false 128 x test
    at (suc i) = rest e i

none_foreign : (bs : List ℕ) → has_foreign bs ≡ false → IsAscii bs
none_foreign [] e = λ i. omega arith
none_foreign (x ∷ xs) e = none_by x xs (foreign x) refl e (none_foreign xs)

ascii_by : (bs : List ℕ) (b : Bool) → has_foreign bs ≡ b → IsAscii bs → b ≡ false
ascii_by bs true is ascii = let r = some_foreign bs is in absurd (omega (arith, r.1, ascii r.0))
ascii_by bs false is ascii = refl

foreign_by : (bs : List ℕ) (b : Bool) → has_foreign bs ≡ b → IsNotAscii bs → b ≡ true
foreign_by bs true is f = refl
foreign_by bs false is f = absurd (omega (arith, f.1, none_foreign bs is f.0))

-- Lines.

text_side : (x : ℕ) (xs : List ℕ) (b : Bool) (o : Option ℕ)
    → line_of (x ∷ xs) (cond b (Some 0) (option_map (λ (n : ℕ). suc n) o))
    ≡ cond b (Some 1) (option_map (λ (k : ℕ). cond (eqb x 10) 1 0 + k) (line_of xs o))
text_side x xs true o = refl
text_side x xs false None = refl
text_side x xs false (Some i) =
    same_some _ _ (omega (arith, sum_by-cons (λ (y : ℕ). cond (eqb y 10) 1 0) x (take i xs)))

both_more : (o : Option ℕ)
    → option_map (λ (k : ℕ). k + 1) (option_map (λ (n : ℕ). suc n) o)
    ≡ option_map (λ (k : ℕ). 1 + k) (option_map (λ (k : ℕ). k + 1) o)
both_more None = refl
both_more (Some n) = same_some (suc n + 1) (1 + (n + 1)) (omega arith)

none_more : (o : Option ℕ) → o ≡ option_map (λ (k : ℕ). 0 + k) o
none_more None = refl
none_more (Some n) = same_some n (0 + n) (omega arith)

parts_side : (x : ℕ) (ps : List (List ℕ)) (b c : Bool) → foreign x ≡ b → eqb x 10 ≡ c
    → option_map (λ (k : ℕ). k + 1) (first_at has_foreign (cond c ([] ∷ ps) (onto_first x ps)))
    ≡ cond b (Some 1)
    (option_map (λ (k : ℕ). cond c 1 0 + k) (option_map (λ (k : ℕ). k + 1) (first_at has_foreign ps)))
parts_side x ps true true e f = absurd (omega (arith, leb-true 128 x e, eqb-true x 10 f))
parts_side x [] true false e f =
    ap (λ t. option_map (λ (k : ℕ). k + 1) (cond (t || false) (Some 0) None)) e
parts_side x (p ∷ ps) true false e f =
    ap (λ t. option_map (λ (k : ℕ). k + 1) (cond (t || has_foreign p) (Some 0) (option_map (λ (n : ℕ). suc n)
    (first_at has_foreign ps)))) e
parts_side x ps false true e f = both_more (first_at has_foreign ps)
parts_side x [] false false e f =
    ap (λ t. option_map (λ (k : ℕ). k + 1) (cond (t || false) (Some 0) None)) e
parts_side x (p ∷ ps) false false e f =
    ap (λ t. option_map (λ (k : ℕ). k + 1) (cond (t || has_foreign p) (Some 0) (option_map (λ (n : ℕ). suc n)
    (first_at has_foreign ps)))) e
    ∙ none_more (option_map (λ (k : ℕ). k + 1) (first_at has_foreign (p ∷ ps)))

lines_side : (text : List ℕ)
    → line_of text (first_at foreign text) ≡ option_map (λ (k : ℕ). k + 1) (first_at has_foreign (pieces 10 text))
lines_side [] = refl
lines_side (x ∷ xs) =
    text_side x xs (foreign x) (first_at foreign xs)
    ∙ ap (λ o. cond (foreign x) (Some 1) (option_map (λ (k : ℕ). cond (eqb x 10) 1 0 + k) o)) (lines_side xs)
    ∙ sym (parts_side x (pieces 10 xs) (foreign x) (eqb x 10) refl refl)

by_lines : (text : List ℕ)
    → not_ascii text ≡ option_map (λ (k : ℕ). k + 1) (first_at has_foreign (pieces 10 text))
unfolding not_ascii
by_lines text = ap (line_of text) (position_is foreign text) ∙ lines_side text

first_foreign : (text : List ℕ) (k : ℕ) → IsFirst has_foreign (pieces 10 text) k → IsFirstNotAscii text k
first_foreign text k f = record {
  line = f.element;
  stands = f.stands;
  byte = some_foreign f.element f.passes;
  before = λ j other less is. none_foreign other (f.before j other less is);
}

foreign_first : (text : List ℕ) (k : ℕ) → IsFirstNotAscii text k → IsFirst has_foreign (pieces 10 text) k
foreign_first text k f = record {
  element = f.line;
  stands = f.stands;
  passes = foreign_by f.line (has_foreign f.line) refl f.byte;
  before = λ j other less is. ascii_by other (has_foreign other) refl (f.before j other less is);
}

abbrev pub HasForeign : List ℕ → ℕ → Type 0
HasForeign text n = (k : ℕ) × (n ≡ k + 1) × IsFirstNotAscii text k

foreign_at : (text : List ℕ) (n : ℕ) (o : Option ℕ) → first_at has_foreign (pieces 10 text) ≡ o
    → option_map (λ (k : ℕ). k + 1) o ≡ Some n → HasForeign text n
foreign_at text n None is e = absurd cc
foreign_at text n (Some k) is e =
    let at : k + 1 ≡ n = cc in (k, sym at, first_foreign text k (found has_foreign (pieces 10 text) k is))

pub foreign_line : (text : List ℕ) (n : ℕ) → not_ascii text ≡ Some n → HasForeign text n
foreign_line text n is =
    foreign_at text n (first_at has_foreign (pieces 10 text)) refl (sym (by_lines text) ∙ is)

pub line_foreign : (text : List ℕ) (k : ℕ) → IsFirstNotAscii text k → not_ascii text ≡ Some (k + 1)
line_foreign text k f =
    by_lines text
    ∙ ap (option_map (λ (j : ℕ). j + 1)) (is_found has_foreign (pieces 10 text) k (foreign_first text k f))

no_line : (text : List ℕ) (o : Option ℕ) → line_of text o ≡ None → o ≡ None
no_line text None e = refl
no_line text (Some i) e = absurd cc

pub all_ascii : (text : List ℕ) → not_ascii text ≡ None → IsAscii text
unfolding not_ascii
all_ascii text is =
    none_foreign text
    (none_any foreign text (sym (position_is foreign text) ∙ no_line text (position foreign text) is))

pub ascii_all : (text : List ℕ) → IsAscii text → not_ascii text ≡ None
unfolding not_ascii
ascii_all text ascii =
    ap (line_of text)
    (position_is foreign text ∙ any_none foreign text (ascii_by text (has_foreign text) refl ascii))

-- One line in place of another.

same_at : (before after : List (List ℕ)) (x y : List ℕ) → has_foreign x ≡ has_foreign y
    → first_at has_foreign (before ++ x ∷ after) ≡ first_at has_foreign (before ++ y ∷ after)
same_at [] after x y e =
    ap (λ b. cond b (Some 0) (option_map (λ (n : ℕ). suc n) (first_at has_foreign after))) e
same_at (b ∷ bs) after x y e =
    ap (λ o. cond (has_foreign b) (Some 0) (option_map (λ (n : ℕ). suc n) o)) (same_at bs after x y e)

same_test : (x y : List ℕ) (b c : Bool) → has_foreign x ≡ b → has_foreign y ≡ c → (IsAscii x ↔ IsAscii y) → b ≡ c
same_test x y true true e f h = refl
same_test x y true false e f h = ascii_by x true e (h.1 (none_foreign y f))
same_test x y false true e f h = sym (ascii_by y true f (h.0 (none_foreign x e)))
same_test x y false false e f h = refl

pub same_foreign : (text other : List ℕ) (before after : List (List ℕ)) (x y : List ℕ)
    → pieces 10 text ≡ before ++ x ∷ after → pieces 10 other ≡ before ++ y ∷ after → (IsAscii x ↔ IsAscii y)
    → not_ascii text ≡ not_ascii other
same_foreign text other before after x y is at h =
    by_lines text ∙ ap (λ ps. option_map (λ (k : ℕ). k + 1) (first_at has_foreign ps)) is
    ∙ ap (option_map (λ (k : ℕ). k + 1))
    (same_at before after x y (same_test x y (has_foreign x) (has_foreign y) refl refl h))
    ∙ sym (by_lines other ∙ ap (λ ps. option_map (λ (k : ℕ). k + 1) (first_at has_foreign ps)) at)
