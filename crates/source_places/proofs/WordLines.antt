-- A line is that of word k exactly where it is a program word with k of them before it.
use Rattle.std.proofs.Common.{◌≡◌, ℕ, zero, suc, ◌+◌, Bool, true, false, cond, List, [], ◌∷◌, take, map, Some}
use Rattle.std.proofs.Common.{refl, sym, ◌∙◌, ap, subst, arith, add-one}
use Rattle.std.specs.List.{slice_get}
use Rattle.std.proofs.lemmas.Bool.{false≢true}
use Rattle.asm_line.specs.Lines.{line, is_word, count_words}
use Rattle.source_places.specs.ProgramLines.{LineValue, program_lines_from}
use Rattle.source_places.specs.Laws.{IsLineOfWord, WordsStandOnTheirLines}

abbrev line_at : ℕ → List ℕ → LineValue
line_at n b = record { number = n; bytes = b }

-- a line of these, which are numbered from j on
abbrev IsFound : ℕ → List (List ℕ) → ℕ → LineValue → Type 0
IsFound j bs k l = (m : ℕ) × (l.number ≡ j + m) × IsLineOfWord bs k (line_at m l.bytes)

found_here : (j : ℕ) (b : List ℕ) (bs : List (List ℕ)) (l : LineValue) → is_word (line b).statement ≡ true
    → line_at j b ≡ l → IsFound j (b ∷ bs) 0 l
found_here j b bs l word is = (
  0,
  omega (arith, ap (λ (m : LineValue). m.number) is),
  record {
    stands = ap (λ (m : LineValue). Some m.bytes) is;
    word = sym (ap (λ (m : LineValue). is_word (line m.bytes).statement) is) ∙ word;
    before = refl;
  },
)

further : (b : List ℕ) (bs : List (List ℕ)) (k m : ℕ) (bytes : List ℕ) (w : Bool) → is_word (line b).statement ≡ w
    → IsLineOfWord bs k (line_at m bytes) → IsLineOfWord (b ∷ bs) (cond w 1 0 + k) (line_at (m + 1) bytes)
further b bs k m bytes w test f = record {
  stands = rw add-one f.stands;
  word = f.word;
  before = rw add-one (ap (λ v. cond v 1 0 + count_words (map line (take m bs))) test ∙ ap (λ n. cond w 1 0 + n) f.before);
}

found_further : (j : ℕ) (b : List ℕ) (bs : List (List ℕ)) (k : ℕ) (l : LineValue) (w : Bool)
    → is_word (line b).statement ≡ w → IsFound (j + 1) bs k l → IsFound j (b ∷ bs) (cond w 1 0 + k) l
found_further j b bs k l w test f = (f.0 + 1, omega (arith, f.1), further b bs k f.0 l.bytes w test f.2)

found_by : (b : List ℕ) (bs : List (List ℕ)) (j k : ℕ) (l : LineValue) (w : Bool) → is_word (line b).statement ≡ w
    → slice_get (cond w (line_at j b ∷ program_lines_from (j + 1) bs) (program_lines_from (j + 1) bs)) k ≡ Some l
    → ((n : ℕ) → slice_get (program_lines_from (j + 1) bs) n ≡ Some l → IsFound (j + 1) bs n l)
    → IsFound j (b ∷ bs) k l
found_by b bs j zero l true test is rest = found_here j b bs l test (cc)
found_by b bs j (suc k) l true test is rest =
    let n : 1 + k ≡ suc k = omega arith in
    subst (λ i. IsFound j (b ∷ bs) i l) n (found_further j b bs k l true test (rest k is))
found_by b bs j k l false test is rest =
    let n : 0 + k ≡ k = omega arith in
    subst (λ i. IsFound j (b ∷ bs) i l) n (found_further j b bs k l false test (rest k is))

found : (bs : List (List ℕ)) (j k : ℕ) (l : LineValue) → slice_get (program_lines_from j bs) k ≡ Some l
    → IsFound j bs k l
found [] j k l is = absurd cc
found (b ∷ bs) j k l is = found_by b bs j k l (is_word (line b).statement) refl is (λ n. found bs (j + 1) n l)

-- the same from the line
behind : (b : List ℕ) (bs : List (List ℕ)) (k m : ℕ) (bytes : List ℕ)
    → IsLineOfWord (b ∷ bs) k (line_at (suc m) bytes)
    → IsLineOfWord bs (count_words (map line (take m bs))) (line_at m bytes)
behind b bs k m bytes f = record { stands = f.stands; word = f.word; before = refl }

listed_by : (b : List ℕ) (bs : List (List ℕ)) (j k m : ℕ) (bytes : List ℕ) (w : Bool) → is_word (line b).statement ≡ w
    → IsLineOfWord (b ∷ bs) k (line_at m bytes)
    → ((n i : ℕ) → IsLineOfWord bs n (line_at i bytes)
    → slice_get (program_lines_from (j + 1) bs) n ≡ Some (line_at (j + 1 + i) bytes))
    → slice_get (cond w (line_at j b ∷ program_lines_from (j + 1) bs) (program_lines_from (j + 1) bs)) k
    ≡ Some (line_at (j + m) bytes)
listed_by b bs j k zero bytes true test f rest =
    let same : b ≡ bytes = cc in
    let at : j ≡ j + 0 = omega arith in
    subst (λ i. slice_get (line_at j b ∷ program_lines_from (j + 1) bs) i ≡ Some (line_at (j + 0) bytes)) f.before
    (λ i. Some (line_at (at i) (same i)))
listed_by b bs j k zero bytes false test f rest =
    let same : b ≡ bytes = cc in
    absurd (false≢true (sym test ∙ ap (λ c. is_word (line c).statement) same ∙ f.word))
listed_by b bs j k (suc m) bytes true test f rest =
    let n = count_words (map line (take m bs)) in
    let count : suc n ≡ k = omega (arith, f.before, ap {B = ℕ} (λ v. cond v 1 0) test) in
    let at : j + 1 + m ≡ j + suc m = omega arith in
    subst (λ i. slice_get (line_at j b ∷ program_lines_from (j + 1) bs) i ≡ Some (line_at (j + suc m) bytes)) count
    (rest n m (behind b bs k m bytes f) ∙ ap (λ i. Some (line_at i bytes)) at)
listed_by b bs j k (suc m) bytes false test f rest =
    let n = count_words (map line (take m bs)) in
    let count : n ≡ k = omega (arith, f.before, ap {B = ℕ} (λ v. cond v 1 0) test) in
    let at : j + 1 + m ≡ j + suc m = omega arith in
    subst (λ i. slice_get (program_lines_from (j + 1) bs) i ≡ Some (line_at (j + suc m) bytes)) count
    (rest n m (behind b bs k m bytes f) ∙ ap (λ i. Some (line_at i bytes)) at)

listed : (bs : List (List ℕ)) (j k m : ℕ) (bytes : List ℕ) → IsLineOfWord bs k (line_at m bytes)
    → slice_get (program_lines_from j bs) k ≡ Some (line_at (j + m) bytes)
listed [] j k m bytes f = let none = f.stands in absurd cc
listed (b ∷ bs) j k m bytes f =
    listed_by b bs j k m bytes (is_word (line b).statement) refl f (λ n i. listed bs (j + 1) n i bytes)

listed_as : (bs : List (List ℕ)) (k : ℕ) (l : LineValue) → IsLineOfWord bs k l
    → slice_get (program_lines_from 0 bs) k ≡ Some l
listed_as bs k l f =
    listed bs 0 k l.number l.bytes f
    ∙ ap (λ n. Some (line_at n l.bytes)) (let n : 0 + l.number ≡ l.number = omega arith in n)

found_as : (bs : List (List ℕ)) (k : ℕ) (l : LineValue) → slice_get (program_lines_from 0 bs) k ≡ Some l
    → IsLineOfWord bs k l
found_as bs k l is =
    let f = found bs 0 k l is in
    let n : f.0 ≡ l.number = omega (arith, f.1) in
    subst (λ i. IsLineOfWord bs k (line_at i l.bytes)) n f.2

pub words_on_their_lines : WordsStandOnTheirLines
words_on_their_lines bs k l = (found_as bs k l, listed_as bs k l)
