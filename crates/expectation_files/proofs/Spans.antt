-- Where the words of a line stand, piece by piece.
use Rattle.std.proofs.Common.{◌≡◌, ℕ, ◌+◌, ◌-◌, ◌≤◌, true, false, cond, eqb, List, [], ◌∷◌, zero, suc, length, take, drop}
use Rattle.std.proofs.Common.{filter, refl, sym, ap, ◌∙◌, arith, length-take}
use Rattle.std.specs.List.{slice_index_or, position_or_len}
use Rattle.std.proofs.lemmas.List.{drop-take, take-take}
use Rattle.text_parts.specs.Pieces.{text_before}
use Rattle.expectation_files.specs.Words.{is_word, statement}
use Rattle.expectation_files.specs.WordSpans.{PlacedPiece, placed_from, words_among, span_after}

-- A piece that is no word.

pub no_word_here : (e b k : ℕ) (p : List ℕ) (ps : List (List ℕ)) → is_word p ≡ false
    → span_after e (words_among (placed_from (b + length p + 1) ps)) k
    ≡ span_after e (words_among (placed_from b (p ∷ ps))) k
no_word_here e b k p ps none =
    let rest = words_among (placed_from (b + length p + 1) ps) in
    let this : PlacedPiece = record { before = b; bytes = p } in
    ap (λ t. span_after e (cond t (this ∷ rest) rest) k) (sym none)

pub no_word_counts : (k : ℕ) (p : List ℕ) (ps : List (List ℕ)) → is_word p ≡ false
    → slice_index_or (filter is_word ps) k [] ≡ slice_index_or (filter is_word (p ∷ ps)) k []
no_word_counts k p ps none =
    let rest = filter is_word ps in ap (λ t. slice_index_or (cond t (p ∷ rest) rest) k []) (sym none)

-- A piece that is a word.

word_first : (b : ℕ) (p : List ℕ) (ps : List (List ℕ)) → is_word p ≡ true
    → words_among (placed_from b (p ∷ ps))
    ≡ record { before = b; bytes = p } ∷ words_among (placed_from (b + length p + 1) ps)
word_first b p ps some =
    let rest = words_among (placed_from (b + length p + 1) ps) in
    let this : PlacedPiece = record { before = b; bytes = p } in
    ap (λ t. cond t (this ∷ rest) rest) some

span-next : (e k : ℕ) (w : PlacedPiece) (ws : List PlacedPiece) → (k ≡ 0 → ⊥)
    → span_after (w.before + length w.bytes) ws (k - 1) ≡ span_after e (w ∷ ws) k
span-next e zero w ws some = absurd (some refl)
span-next e (suc k) w ws some =
    let same : suc k - 1 ≡ k = omega arith in ap (λ n. span_after (w.before + length w.bytes) ws n) same

pub word_counts : (k : ℕ) (p : List ℕ) (ps : List (List ℕ)) → is_word p ≡ true
    → filter is_word (p ∷ ps) ≡ p ∷ filter is_word ps
word_counts k p ps some = let rest = filter is_word ps in ap (λ t. cond t (p ∷ rest) rest) some

-- it stands before the one that has the number
pub word_before : (e b k : ℕ) (p : List ℕ) (ps : List (List ℕ)) → is_word p ≡ true → (k ≡ 0 → ⊥)
    → span_after (b + length p) (words_among (placed_from (b + length p + 1) ps)) (k - 1)
    ≡ span_after e (words_among (placed_from b (p ∷ ps))) k
word_before e b k p ps some later =
    span-next e k (record { before = b; bytes = p }) (words_among (placed_from (b + length p + 1) ps)) later
    ∙ sym (ap (λ ws. span_after e ws k) (word_first b p ps some))

-- What stands in a line up to its comment stands so in the line.

in_front_part : (w b n : ℕ) (xs : List ℕ) → b + w ≤ n → take w (drop b (take n xs)) ≡ take w (drop b xs)
in_front_part w b n xs within =
    sym (drop-take b w (take n xs)) ∙ ap (drop b) (take-take (b + w) n xs within) ∙ drop-take b w xs

length-text_before : (c : ℕ) (xs : List ℕ) → length (text_before c xs) ≤ position_or_len (λ x. eqb x c) xs
length-text_before c xs = omega (arith, length-take (position_or_len (λ x. eqb x c) xs) xs)

text_before-le : (c : ℕ) (xs : List ℕ) → length (text_before c xs) ≤ length xs
text_before-le c xs = omega (arith, length-take (position_or_len (λ x. eqb x c) xs) xs)

before_byte : (c w b : ℕ) (xs : List ℕ) → b + w ≤ length (text_before c xs)
    → take w (drop b (text_before c xs)) ≡ take w (drop b xs)
before_byte c w b xs within =
    in_front_part w b (position_or_len (λ x. eqb x c) xs) xs (omega (arith, within, length-text_before c xs))

pub in_statement : (w b : ℕ) (line : List ℕ) → b + w ≤ length (statement line)
    → take w (drop b (statement line)) ≡ take w (drop b line)
in_statement w b line within =
    before_byte 59 w b (text_before 35 line) within
    ∙ before_byte 35 w b line (omega (arith, within, text_before-le 59 (text_before 35 line)))
