-- Words with a space between each two, written one after the other.
use Rattle.std.proofs.Common.{◌≡◌, ℕ, List, [], ◌∷◌, ◌++◌, sym, ap, ◌∙◌, append_assoc, append-nil}
use Rattle.expectation_files.specs.Words.{text_of, in_one_line}

-- words with a space before each
abbrev pub spaced : List (List ℕ) → List ℕ
spaced [] = []
spaced (w ∷ ws) = 32 ∷ text_of w ++ spaced ws

pub after_word : (w : List ℕ) (ws : List (List ℕ)) → text_of w ++ spaced ws ≡ in_one_line (w ∷ ws)
after_word w [] = append-nil (text_of w)
after_word w (v ∷ vs) = ap (λ t. text_of w ++ 32 ∷ t) (after_word v vs)

-- the first word is written
pub first_word : (all more : List (List ℕ)) (w done : List ℕ) → all ≡ w ∷ more → done ≡ text_of w
    → done ++ spaced more ≡ in_one_line all
first_word all more w done cut is =
    ap (λ t. t ++ spaced more) is ∙ after_word w more ∙ sym (ap in_one_line cut)

-- a word more is written
pub word_more : (all more : List (List ℕ)) (w before done : List ℕ) → all ≡ w ∷ more
    → done ≡ (before ++ 32 ∷ []) ++ text_of w → done ++ spaced more ≡ before ++ spaced all
word_more all more w before done cut is =
    ap (λ t. t ++ spaced more) is
    ∙ append_assoc (before ++ 32 ∷ []) (text_of w) (spaced more)
    ∙ append_assoc before (32 ∷ []) (text_of w ++ spaced more)
    ∙ sym (ap (λ ws. before ++ spaced ws) cut)

-- no word is left
pub none_left : (all : List (List ℕ)) (done : List ℕ) → all ≡ [] → done ++ spaced all ≡ done
none_left all done none = ap (λ ws. done ++ spaced ws) none ∙ append-nil done
