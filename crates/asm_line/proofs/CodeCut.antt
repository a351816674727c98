-- The first line of a text up to its comment: one search finds the line's end or its first semicolon.
use Rattle.std.proofs.Common.{◌≡◌, ℕ, zero, suc, ◌+◌, ◌-◌, ◌<◌, ◌≤◌, Bool, true, false, not, cond, eqb, ltb}
use Rattle.std.proofs.Common.{List, [], ◌∷◌, length, take, drop, map, Option, Some, None, refl, sym, ◌∙◌, ap}
use Rattle.std.proofs.Common.{arith, ⊎_elim, lt-ltb, le-ltb, length-drop}
use Rattle.std.specs.Prelude.{slice_index, ◌||◌}
use Rattle.std.specs.List.{before_first, position_or_len, position}
use Rattle.std.proofs.lemmas.Bool.{cases_lt}
use Rattle.std.proofs.lemmas.Bool.Decides.{nat_tests}
use Rattle.std.proofs.lemmas.List.{take_all}
use Rattle.text_parts.specs.Pieces.{text_before, text_after, rest_pieces, rest_length}
use Rattle.text_parts.proofs.Pieces.{place_is, no_place, pieces_cut}
use Rattle.asm_line.specs.Lines.{Line, line, lines, rest_lines}
use Rattle.asm_line.proofs.EmptyLines.{empty_line}

-- whether a byte ends what a line says
abbrev ends : ℕ → Bool
ends b = eqb b 10 || eqb b 59

before-cons : (p : ℕ → Bool) (x : ℕ) (xs : List ℕ) → before_first p (x ∷ xs) ≡ cond (p x) [] (x ∷ before_first p xs)
before-cons p x xs = by (p x)
  where
    by : (b : Bool) → take (cond (not b) (1 + position_or_len p xs) 0) (x ∷ xs) ≡ cond b [] (x ∷ before_first p xs)
    by true = refl
    by false = let more : 1 + position_or_len p xs ≡ suc (position_or_len p xs) = omega arith in rw more refl

code_before : (p q : ℕ → Bool) (xs : List ℕ)
    → before_first q (before_first p xs) ≡ before_first (λ b. p b || q b) xs
code_before p q [] = refl
code_before p q (x ∷ xs) =
    ap (before_first q) (before-cons p x xs) ∙ by (code_before p q xs) (p x) (q x) refl
    ∙ sym (before-cons (λ b. p b || q b) x xs)
  where
    by : before_first q (before_first p xs) ≡ before_first (λ b. p b || q b) xs → (a b : Bool) → q x ≡ b
        → before_first q (cond a [] (x ∷ before_first p xs))
        ≡ cond (a || b) [] (x ∷ before_first (λ b. p b || q b) xs)
    by rest true b e = refl
    by rest false true e = before-cons q x (before_first p xs) ∙ rw e refl
    by rest false false e = before-cons q x (before_first p xs) ∙ rw e (ap (λ t. x ∷ t) rest)

more_on_both : (m n : ℕ) → ltb (suc m) (suc n) ≡ ltb m n
more_on_both m n = ⊎_elim
    (λ h. lt-ltb (suc m) (suc n) (omega (arith, h)) ∙ sym (lt-ltb m n h))
    (λ h. le-ltb (suc m) (suc n) (omega (arith, h)) ∙ sym (le-ltb m n h))
    (cases_lt m n)

after-cons : (c x : ℕ) (xs : List ℕ) → text_after c (x ∷ xs) ≡ cond (eqb x c) (Some xs) (text_after c xs)
unfolding text_after
after-cons c x xs = by (eqb x c)
  where
    n : ℕ
    n = position_or_len (λ b. eqb b c) xs

    by : (b : Bool)
        → cond (ltb (cond (not b) (1 + n) 0) (length (x ∷ xs))) (Some (drop (cond (not b) (1 + n) 0 + 1) (x ∷ xs))) None
        ≡ cond b (Some xs) (cond (ltb n (length xs)) (Some (drop (n + 1) xs)) None)
    by true = ap (λ b. cond b (Some xs) None) (lt-ltb 0 (suc (length xs)) (omega arith))
    by false =
        let here : 1 + n ≡ suc n = omega arith in
        let after : suc n + 1 ≡ suc (n + 1) = omega arith in
        rw (here, after)
        (ap (λ b. cond b (Some (drop (suc (n + 1)) (x ∷ xs))) None) (more_on_both n (length xs)))

-- nothing is lost before the search's place
after_past : (c k : ℕ) (xs : List ℕ) → k ≤ position_or_len (λ b. eqb b c) xs
    → text_after c (drop k xs) ≡ text_after c xs
after_past c zero xs h = refl
after_past c (suc k) [] h = absurd (omega (arith, h))
after_past c (suc k) (x ∷ xs) h = by (after_past c k xs) (eqb x c) refl h ∙ sym (after-cons c x xs)
  where
    by : (k ≤ position_or_len (λ b. eqb b c) xs → text_after c (drop k xs) ≡ text_after c xs) → (b : Bool) → eqb x c ≡ b
        → suc k ≤ cond (not b) (1 + position_or_len (λ b. eqb b c) xs) 0
        → text_after c (drop k xs) ≡ cond (eqb x c) (Some xs) (text_after c xs)
    by rest true e l = absurd (omega (arith, l))
    by rest false e l = rw e (rest (omega (arith, l)))

-- the line ends no sooner than what it says
line_past : (xs : List ℕ) → position_or_len ends xs ≤ position_or_len (λ b. eqb b 10) xs
line_past [] = omega arith
line_past (x ∷ xs) = by (line_past xs) (eqb x 10) (eqb x 59)
  where
    by : position_or_len ends xs ≤ position_or_len (λ b. eqb b 10) xs → (a b : Bool)
        → cond (not (a || b)) (1 + position_or_len ends xs) 0
        ≤ cond (not a) (1 + position_or_len (λ b. eqb b 10) xs) 0
    by rest true b = omega arith
    by rest false true = omega arith
    by rest false false = omega (arith, rest)

-- where the search finds nothing

pub code_whole : (text : List ℕ) → None ≡ position ends text → text ≡ text_before 59 (text_before 10 text)
code_whole text e =
    sym (take_all (position_or_len ends text) text (no_place ends text e))
    ∙ sym (code_before (λ b. eqb b 10) (λ b. eqb b 59) text)

none_after : (c : ℕ) (xs : List ℕ) → length xs ≤ position_or_len (λ b. eqb b c) xs → None ≡ text_after c xs
unfolding text_after
none_after c xs h = rw (le-ltb (position_or_len (λ b. eqb b c) xs) (length xs) h) refl

pub no_line_after : (text : List ℕ) → None ≡ position ends text → None ≡ text_after 10 text
no_line_after text e = none_after 10 text (omega (arith, no_place ends text e, line_past text))

-- at the place that it finds

pub code_found : (text : List ℕ) (k : ℕ) → Some k ≡ position ends text
    → take k text ≡ text_before 59 (text_before 10 text)
code_found text k e =
    ap (λ n. take n text) (place_is ends text k e).0 ∙ sym (code_before (λ b. eqb b 10) (λ b. eqb b 59) text)

from_there : (text : List ℕ) (k : ℕ) → Some k ≡ position ends text
    → text_after 10 (drop k text) ≡ text_after 10 text
from_there text k e = after_past 10 k text (omega (arith, (place_is ends text k e).0, line_past text))

pub line_after : (text : List ℕ) (k : ℕ) → Some k ≡ position ends text
    → text_after 10 (take (length text - k) (drop k text)) ≡ text_after 10 text
line_after text k e =
    ap (text_after 10) (take_all (length text - k) (drop k text) (omega (arith, length-drop k text)))
    ∙ from_there text k e

at_head : (c x : ℕ) (xs : List ℕ) → eqb x c ≡ true → Some xs ≡ text_after c (x ∷ xs)
at_head c x xs e = sym (after-cons c x xs ∙ ap (λ b. cond b (Some xs) (text_after c xs)) e)

after_it : (c k : ℕ) (xs : List ℕ) → k < length xs → eqb (slice_index xs k) c ≡ true
    → Some (drop (k + 1) xs) ≡ text_after c (drop k xs)
after_it c k [] h e = absurd (omega (arith, h))
after_it c zero (x ∷ xs) h e = at_head c x xs e
after_it c (suc k) (x ∷ xs) h e =
    let more : suc k + 1 ≡ suc (k + 1) = omega arith in
    rw more (after_it c k xs (omega (arith, h)) e)

pub at_line_end : (text : List ℕ) (k : ℕ) → Some k ≡ position ends text → slice_index text k ≡ 10
    → Some (take (length text - (k + 1)) (drop (k + 1) text)) ≡ text_after 10 text
at_line_end text k e here =
    let h = place_is ends text k e in
    ap (λ (t : List ℕ). Some t)
    (take_all (length text - (k + 1)) (drop (k + 1) text) (omega (arith, length-drop (k + 1) text)))
    ∙ after_it 10 k text (omega (arith, h.0, h.1)) (ap (λ x. eqb x 10) here)
    ∙ from_there text k e

-- lines of the text

rest_lines_are : (o : Option (List ℕ)) → map line (rest_pieces 10 o) ≡ rest_lines o
rest_lines_are None = refl
rest_lines_are (Some text) = refl

pub lines_cut : (text : List ℕ) (l : Line) (rest : Option (List ℕ)) → l ≡ line (text_before 10 text)
    → rest ≡ text_after 10 text → lines text ≡ l ∷ rest_lines rest
lines_cut text l rest e f =
    rw (e, f) (ap (λ ps. map line ps) (pieces_cut 10 text)
    ∙ ap (λ ls. line (text_before 10 text) ∷ ls) (rest_lines_are (text_after 10 text)))

ten : (x : ℕ) → eqb x 10 ≡ true → x ≡ 10
ten x e = grind (arith, nat_tests)

pub line_end_first : (text rest : List ℕ) → eqb (slice_index text 0) 10 ≡ true → rest ≡ drop 1 text
    → let empty : Line = record { label = None; statement = [] } in
    lines text ≡ empty ∷ lines rest
line_end_first [] rest e f = absurd cc
line_end_first (x ∷ xs) rest e f =
    rw (ten x e, f) (ap (λ l. l ∷ lines xs) (sym (empty_line [] refl)))

pub rest_is_shorter : (c : ℕ) (xs : List ℕ) → rest_length (text_after c xs) ≤ length xs
unfolding text_after
rest_is_shorter c xs =
    let n = position_or_len (λ b. eqb b c) xs in
    ⊎_elim
    (λ h. rw (lt-ltb n (length xs) h) (omega (arith, h, length-drop (n + 1) xs)))
    (λ h. rw (le-ltb n (length xs) h) (omega arith))
    (cases_lt n (length xs))
