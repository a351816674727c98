-- The walk over a text takes each line's comment to ASCII, and no line says anything else for it.
use Rattle.std.proofs.Common.{◌≡◌, ℕ, suc, ◌+◌, Bool, true, false, not, cond, ◌||◌, eqb, ltb, List, [], ◌∷◌, ◌++◌}
use Rattle.std.proofs.Common.{◌≤◌, length, take, drop, map, refl, sym, ◌∙◌, ap, arith, eqb-true, ltb-false, ne_eqb}
use Rattle.std.specs.List.{before_first, position_or_len, slice_split, onto_first}
use Rattle.std.proofs.lemmas.List.Splits.{slice_split-cons_yes, slice_split-cons_no}
use Rattle.text_parts.specs.Pieces.{pieces, text_before, text_after}
use Rattle.asm_line.specs.Text.{trim}
use Rattle.asm_line.specs.Lines.{Line, line, lines, line_with_label}
use Rattle.source_comments.specs.AsciiComments.{ascii_byte, ascii_line}
use Rattle.source_comments.specs.CommentWalk.{taken, inside_after, ascii_from}

-- the walk on one line
abbrev line_from : Bool → List ℕ → List ℕ
line_from inside [] = []
line_from inside (b ∷ bs) = taken inside b ∷ line_from (inside || eqb b 59) bs

-- and on lines, of which the first begins inside of a comment, or outside
abbrev lines_from : Bool → List (List ℕ) → List (List ℕ)
lines_from inside [] = []
lines_from inside (p ∷ ps) = line_from inside p ∷ map (line_from false) ps

pub length_kept : (bs : List ℕ) (inside : Bool) → length (ascii_from inside bs) ≡ length bs
length_kept [] inside = refl
length_kept (b ∷ bs) inside = ap suc (length_kept bs (inside_after inside b))

ends_alike : (b : ℕ) → eqb (ascii_byte b) 10 ≡ eqb b 10
ends_alike b = by (ltb b 128) refl
  where
    by : (t : Bool) → ltb b 128 ≡ t → eqb (cond t b 63) 10 ≡ eqb b 10
    by true e = refl
    by false e =
        let far : 128 ≤ b = ltb-false b 128 e in
        sym (ne_eqb b 10 (λ k. omega (arith, k, far)))

taken_ends_alike : (inside : Bool) (b : ℕ) → eqb (taken inside b) 10 ≡ eqb b 10
taken_ends_alike true b = ends_alike b
taken_ends_alike false b = refl

onto_line : (inside : Bool) (b : ℕ) (ps : List (List ℕ))
    → onto_first (taken inside b) (lines_from (inside || eqb b 59) ps) ≡ lines_from inside (onto_first b ps)
onto_line inside b [] = refl
onto_line inside b (p ∷ ps) = refl

next_line : (ps : List (List ℕ)) → [] ∷ lines_from false ps ≡ [] ∷ map (line_from false) ps
next_line [] = refl
next_line (p ∷ ps) = refl

pieces_from : (bs : List ℕ) (inside : Bool) → pieces 10 (ascii_from inside bs) ≡ lines_from inside (pieces 10 bs)
pieces_from [] inside = refl
pieces_from (b ∷ bs) inside = by (λ t. pieces_from bs t) (eqb b 10) refl
  where
    after_end : eqb b 10 ≡ true → inside_after inside b ≡ false
    after_end e = rw e refl

    after_other : eqb b 10 ≡ false → inside_after inside b ≡ (inside || eqb b 59)
    after_other e = rw e refl

    by : ((t : Bool) → pieces 10 (ascii_from t bs) ≡ lines_from t (pieces 10 bs)) → (t : Bool) → eqb b 10 ≡ t
        → pieces 10 (ascii_from inside (b ∷ bs)) ≡ lines_from inside (pieces 10 (b ∷ bs))
    by rest true e =
        slice_split-cons_yes (λ x. eqb x 10) (taken inside b) (ascii_from (inside_after inside b) bs)
        (taken_ends_alike inside b ∙ e)
        ∙ ap (λ t. [] ∷ pieces 10 (ascii_from t bs)) (after_end e)
        ∙ ap (λ ps. [] ∷ ps) (rest false)
        ∙ next_line (pieces 10 bs)
        ∙ sym (ap (lines_from inside) (slice_split-cons_yes (λ x. eqb x 10) b bs e))
    by rest false e =
        slice_split-cons_no (λ x. eqb x 10) (taken inside b) (ascii_from (inside_after inside b) bs)
        (taken_ends_alike inside b ∙ e)
        ∙ ap (λ t. onto_first (taken inside b) (pieces 10 (ascii_from t bs))) (after_other e)
        ∙ ap (onto_first (taken inside b)) (rest (inside || eqb b 59))
        ∙ onto_line inside b (pieces 10 bs)
        ∙ sym (ap (lines_from inside) (slice_split-cons_no (λ x. eqb x 10) b bs e))

before-cons : (c x : ℕ) (xs : List ℕ) → text_before c (x ∷ xs) ≡ cond (eqb x c) [] (x ∷ text_before c xs)
before-cons c x xs = by (eqb x c)
  where
    n : ℕ
    n = position_or_len (λ b. eqb b c) xs

    by : (b : Bool) → take (cond (not b) (1 + n) 0) (x ∷ xs) ≡ cond b [] (x ∷ take n xs)
    by true = refl
    by false = let more : 1 + n ≡ suc n = omega arith in rw more refl

-- inside of a comment all bytes are taken to ASCII
inside_line : (bs : List ℕ) → line_from true bs ≡ map ascii_byte bs
inside_line [] = refl
inside_line (b ∷ bs) = ap (λ t. ascii_byte b ∷ t) (inside_line bs)

-- a line, by what stands before its comment
abbrev with_comment : List ℕ → List ℕ → List ℕ
with_comment code l = code ++ map ascii_byte (drop (length code) l)

is_ascii_line : (bs : List ℕ) → line_from false bs ≡ ascii_line bs
is_ascii_line [] = refl
is_ascii_line (b ∷ bs) = by (is_ascii_line bs) (eqb b 59) refl ∙ ap (λ code. with_comment code (b ∷ bs)) (sym (before-cons 59 b bs))
  where
    semicolon : eqb b 59 ≡ true → b ≡ ascii_byte b
    semicolon e = rw (eqb-true b 59 e) refl

    by : line_from false bs ≡ ascii_line bs → (t : Bool) → eqb b 59 ≡ t
        → b ∷ line_from (eqb b 59) bs ≡ with_comment (cond (eqb b 59) [] (b ∷ text_before 59 bs)) (b ∷ bs)
    by rest true e = rw e (ap (λ t. b ∷ t) (inside_line bs) ∙ ap (λ x. x ∷ map ascii_byte bs) (semicolon e))
    by rest false e = rw e (ap (λ t. b ∷ t) rest)

same_code : (bs : List ℕ) → text_before 59 (line_from false bs) ≡ text_before 59 bs
same_code [] = refl
same_code (b ∷ bs) = before-cons 59 b (line_from (eqb b 59) bs) ∙ by (same_code bs) (eqb b 59) refl ∙ sym (before-cons 59 b bs)
  where
    by : text_before 59 (line_from false bs) ≡ text_before 59 bs → (t : Bool) → eqb b 59 ≡ t
        → cond (eqb b 59) [] (b ∷ text_before 59 (line_from (eqb b 59) bs)) ≡ cond (eqb b 59) [] (b ∷ text_before 59 bs)
    by rest true e = rw e refl
    by rest false e = rw e (ap (λ t. b ∷ t) rest)

same_line : (bs : List ℕ) → line (line_from false bs) ≡ line bs
unfolding line
same_line bs = ap (λ code. let text = trim code in line_with_label text (text_after 58 text)) (same_code bs)

-- of all lines

all_lines : (ps : List (List ℕ)) → lines_from false ps ≡ map (line_from false) ps
all_lines [] = refl
all_lines (p ∷ ps) = refl

all_ascii : (ps : List (List ℕ)) → map (line_from false) ps ≡ map ascii_line ps
all_ascii [] = refl
all_ascii (p ∷ ps) = ap (λ l. l ∷ map (line_from false) ps) (is_ascii_line p) ∙ ap (λ ls. ascii_line p ∷ ls) (all_ascii ps)

all_same : (ps : List (List ℕ)) → map line (map (line_from false) ps) ≡ map line ps
all_same [] = refl
all_same (p ∷ ps) =
    ap (λ l. l ∷ map line (map (line_from false) ps)) (same_line p) ∙ ap (λ ls. line p ∷ ls) (all_same ps)

-- of what the walk leaves

pub ascii_length : (ascii text : List ℕ) → ascii ≡ ascii_from false text → length ascii ≡ length text
ascii_length ascii text is = rw is (length_kept text false)

pub ascii_bytes : (ascii text : List ℕ) → ascii ≡ ascii_from false text
    → pieces 10 ascii ≡ map ascii_line (pieces 10 text)
ascii_bytes ascii text is =
    rw is (pieces_from text false ∙ all_lines (pieces 10 text) ∙ all_ascii (pieces 10 text))

pub same_lines : (ascii text : List ℕ) → ascii ≡ ascii_from false text → lines ascii ≡ lines text
same_lines ascii text is =
    rw is (ap (map line) (pieces_from text false ∙ all_lines (pieces 10 text)) ∙ all_same (pieces 10 text))

pub ruleset of_the_walk = (ascii_length, ascii_bytes, same_lines)
