-- The first word of a text.
use Rattle.std.proofs.Common.{◌≡◌, ℕ, ◌+◌, ◌-◌, ◌<◌, Bool, true, false, not, cond, eqb, List, [], ◌∷◌, length, take, drop}
use Rattle.std.proofs.Common.{refl, sym, ap, ◌∙◌, arith, Some, None, filter, lt-ltb, length-take, length-drop}
use Rattle.std.proofs.lemmas.Bool.{eqb-true, eqb-false}
use Rattle.std.proofs.lemmas.List.{take_all}
use Rattle.std.proofs.lemmas.List.Splits.{slice_split-cons_yes, slice_split_first, slice_split_none}
use Rattle.std.proofs.lemmas.List.Sums.{fails_before_first}
use Rattle.std.specs.List.{All, slice_split, position_or_len, position}
use Rattle.text_parts.proofs.Pieces.{place_is, no_place}
use Rattle.expectation_files.specs.Words.{is_blank, is_word, words_of, skip_blanks}

-- Blanks in front are between no words.

words-blank : (b : ℕ) (bs : List ℕ) → is_blank b ≡ true → words_of (b ∷ bs) ≡ words_of bs
unfolding words_of
words-blank b bs e = ap (filter is_word) (slice_split-cons_yes is_blank b bs e)

words-skipped : (b : ℕ) (bs : List ℕ) (t : Bool) → is_blank b ≡ t → words_of (skip_blanks bs) ≡ words_of bs
    → words_of (cond t (skip_blanks bs) (b ∷ bs)) ≡ words_of (b ∷ bs)
words-skipped b bs true e h = h ∙ sym (words-blank b bs e)
words-skipped b bs false e h = refl

words-skip_blanks : (bs : List ℕ) → words_of (skip_blanks bs) ≡ words_of bs
words-skip_blanks [] = refl
words-skip_blanks (b ∷ bs) = words-skipped b bs (is_blank b) refl (words-skip_blanks bs)

words-from : (bs text : List ℕ) → text ≡ skip_blanks bs → words_of bs ≡ words_of text
words-from bs text e = sym (words-skip_blanks bs) ∙ sym (ap words_of e)

-- What is left begins with no blank.

begins_so : (x : ℕ) (bs rest : List ℕ) (b : ℕ) (t : Bool) → is_blank x ≡ t
    → cond t (skip_blanks bs) (x ∷ bs) ≡ b ∷ rest → (skip_blanks bs ≡ b ∷ rest → is_blank b ≡ false)
    → is_blank b ≡ false
begins_so x bs rest b true t e further = further e
begins_so x bs rest b false t e further = let same : b ≡ x = cc in ap is_blank same ∙ t

begins : (bs rest : List ℕ) (b : ℕ) → skip_blanks bs ≡ b ∷ rest → is_blank b ≡ false
begins [] rest b e = absurd cc
begins (x ∷ bs) rest b e = begins_so x bs rest b (is_blank x) refl e (begins bs rest b)

further_on : (b : ℕ) (rest : List ℕ) (t : Bool) → is_blank b ≡ t → t ≡ false
    → 0 < position_or_len is_blank (b ∷ rest)
further_on b rest t e f =
    let n = position_or_len is_blank rest in
    let P : Bool → Type 0 = λ v. 0 < cond (not v) (1 + n) 0 in
    let here : 0 < 1 + n = omega arith in
    rw (e ∙ f) here

-- its first blank stands behind a byte
some_before : (bs text : List ℕ) → text ≡ skip_blanks bs → eqb (length text) 0 ≡ false
    → 0 < position_or_len is_blank text
some_before bs [] e some = absurd cc
some_before bs (b ∷ rest) e some = further_on b rest (is_blank b) refl (begins bs rest b (sym e))

-- The first word ends at the first blank.

filter-word : (w : List ℕ) (ws : List (List ℕ)) → 0 < length w → filter is_word (w ∷ ws) ≡ w ∷ filter is_word ws
filter-word w ws some = rw (lt-ltb 0 (length w) some) refl

pub word-cut : (bs text : List ℕ) (end : ℕ) → text ≡ skip_blanks bs → eqb (length text) 0 ≡ false
    → Some end ≡ position is_blank text
    → words_of bs ≡ take end text ∷ words_of (take (length text - (end + 1)) (drop (end + 1) text))
unfolding words_of
word-cut bs text end e some at =
    let place = place_is is_blank text end at in
    let left = some_before bs text e some in
    let whole : take (length text - (end + 1)) (drop (end + 1) text) ≡ drop (end + 1) text =
    take_all (length text - (end + 1)) (drop (end + 1) text) (omega (arith, length-drop (end + 1) text)) in
    let word : 0 < length (take end text) = omega (arith, length-take end text, place.0, place.1, left) in
    words-from bs text e ∙ ap (filter is_word) (slice_split_first is_blank text 0 place.1
    ∙ ap (λ k. take k text ∷ slice_split is_blank (drop (k + 1) text)) (sym place.0)
    ∙ ap (λ t. take end text ∷ slice_split is_blank t) (sym whole))
    ∙ filter-word (take end text) (slice_split is_blank (take (length text - (end + 1)) (drop (end + 1) text))) word

pub word-alone : (bs text : List ℕ) → text ≡ skip_blanks bs → eqb (length text) 0 ≡ false
    → None ≡ position is_blank text → words_of bs ≡ text ∷ words_of []
unfolding words_of
word-alone bs text e some at =
    let far = no_place is_blank text at in
    let none : All (λ b. is_blank b ≡ false) text =
    λ k d m. fails_before_first is_blank text k d (omega (arith, far, m)) in
    let ne = eqb-false (length text) 0 some in
    words-from bs text e ∙ ap (filter is_word) (slice_split_none is_blank text none)
    ∙ filter-word text [] (omega arith)

pub no_word : (bs text : List ℕ) → text ≡ skip_blanks bs → eqb (length text) 0 ≡ true → words_of bs ≡ []
unfolding words_of
no_word bs [] e none = words-from bs [] e
no_word bs (b ∷ rest) e none = let zero_is = eqb-true _ _ none in absurd (omega arith)
