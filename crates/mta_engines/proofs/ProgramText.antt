-- Reading a text of words line by line gives its program.
use Rattle.std.proofs.Common.{◌≡◌, ℕ, suc, ◌+◌, ◌<◌, ◌≤◌, inl, inr, true, false, List, [], ◌∷◌, ◌++◌, length, refl}
use Rattle.std.proofs.Common.{sym, ap, ◌∙◌, arith, append_assoc, append-nil, zero-add, length-append, nat_le, min}
use Rattle.std.proofs.Common.{Option, Some, None, is_some, Result, Ok, Err, if◌then◌else◌, ◌==◌}
use Rattle.std.proofs.lemmas.Bool.{eq-eqb, ne_eqb, cases_Bool, lt-leb, le-leb, cond-true, cond-false, cond_both}
use Rattle.std.proofs.lemmas.Bool.{cases_eq, eqb-true, eqb-false, true≢false}
use Rattle.std.specs.List.{filter_map, cons_option, before_first, after_first}
use Rattle.text_parts.specs.Reading.{hexadecimal_word}
use Rattle.text_parts.specs.Lines.{is_line_end, lines_of}
use Rattle.text_parts.proofs.FirstLine.{lines-first}
use Rattle.image_file.specs.ImageValue.{most_program_words}
use Rattle.mta_engines.specs.ProgramLines.{program_of, least_line, empty_fault, too_many_fault, malformed_from}
use Rattle.mta_engines.specs.ProgramLines.{words_unless}
use Rattle.mta_engines.specs.declared.tool_fault.ToolFault.{ToolFault}
use Rattle.mta_engines.specs.declared.tool_fault.ToolFault.TheVariants.{Words}

-- What is read with so many words read and these lines left.

abbrev pub ended : List ℕ → Result (List ℕ) ToolFault
ended [] = Err (Words 1)
ended (word ∷ words) = Ok (word ∷ words)

abbrev pub line_read : ℕ → Option ℕ → (ℕ → Result (List ℕ) ToolFault) → Result (List ℕ) ToolFault
line_read count None rest = Err (Words (count + 1))
line_read count (Some word) rest = if count == most_program_words then Err (Words (count + 1)) else rest word

unfoldable pub read_on : List ℕ → List (List ℕ) → Result (List ℕ) ToolFault
read_on words [] = ended words
read_on words (line ∷ lines) = line_read (length words) (hexadecimal_word line)
    (λ word. read_on (words ++ word ∷ []) lines)

-- The least fault of those.

abbrev count_fault : ℕ → Option ℕ
count_fault count = least_line (empty_fault count) (too_many_fault count)

abbrev fault_from : ℕ → List (List ℕ) → Option ℕ
fault_from count lines = least_line (malformed_from (count + 1) lines) (count_fault (count + length lines))

no_count_fault : (count : ℕ) → 0 < count → count ≤ most_program_words → count_fault count ≡ None
no_count_fault count some few =
    let not_empty = ne_eqb count 0 (λ e. omega arith) in
    let not_many = le-leb count most_program_words few in
    rw (not_empty, not_many) refl

-- a malformed line is before the first line too many
least-malformed : (count all : ℕ) → count ≤ most_program_words → 0 < all
    → least_line (Some (count + 1)) (count_fault all) ≡ Some (count + 1)
least-malformed count all few some =
    let not_empty = ne_eqb all 0 (λ e. omega arith) in
    let same : min (count + 1) (most_program_words + 1) ≡ count + 1 = omega arith in
    elim (cases_Bool (nat_le all most_program_words)) [
      | inl h ↦ rw (not_empty, h) refl
      | inr h ↦ rw (not_empty, h) (ap (λ n. Some n) same)
    ]

-- the line too many is before every later malformed one
abbrev AtLeast : ℕ → Option ℕ → Type 0
AtLeast n None = Unit {0}
AtLeast n (Some line) = n ≤ line

malformed-at_least : (n m : ℕ) (lines : List (List ℕ)) → n ≤ m → AtLeast n (malformed_from m lines)
malformed-at_least n m [] le = tt
malformed-at_least n m (line ∷ lines) le =
    cond_both (is_some (hexadecimal_word line)) (malformed_from (m + 1) lines) (Some m) (AtLeast n)
    (λ e. malformed-at_least n (m + 1) lines (omega arith))
    (λ e. le)

least-at_most : (line : Option ℕ) (n : ℕ) → AtLeast n line → least_line line (Some n) ≡ Some n
least-at_most None n le = refl
least-at_most (Some line) n le = let same : min line n ≡ n = omega arith in ap (λ m. Some m) same

least-too_many : (line : Option ℕ) (all : ℕ) → AtLeast (most_program_words + 1) line → most_program_words < all
    → least_line line (count_fault all) ≡ Some (most_program_words + 1)
least-too_many line all le many =
    let not_empty = ne_eqb all 0 (λ e. omega arith) in
    let too_many = lt-leb all most_program_words many in
    rw (not_empty, too_many) (least-at_most line (most_program_words + 1) le)

-- Reading on gives the words, or the least fault.

abbrev IsRead : List ℕ → List (List ℕ) → Type 0
IsRead words lines = read_on words lines ≡ words_unless (fault_from (length words) lines)
    (words ++ filter_map hexadecimal_word lines)

IsRead-nil : (words : List ℕ) → length words ≤ most_program_words → IsRead words []
unfolding read_on
IsRead-nil [] few = refl
IsRead-nil (word ∷ words) few =
    let none = no_count_fault (length (word ∷ words) + 0) (omega arith) (omega arith) in
    rw (none, append-nil) refl

IsRead-cons : (o : Option ℕ) (words : List ℕ) (lines : List (List ℕ)) → length words ≤ most_program_words
    → ((word : ℕ) → length (words ++ word ∷ []) ≤ most_program_words → IsRead (words ++ word ∷ []) lines)
    → line_read (length words) o (λ word. read_on (words ++ word ∷ []) lines)
    ≡ words_unless (least_line (if is_some o then malformed_from (length words + 1 + 1) lines else Some (length words + 1))
    (count_fault (length words + suc (length lines))))
    (words ++ cons_option o (filter_map hexadecimal_word lines))
IsRead-cons None words lines few rest =
    sym (ap (λ f. words_unless f (words ++ filter_map hexadecimal_word lines))
    (least-malformed (length words) (length words + suc (length lines)) few (omega arith)))
IsRead-cons (Some word) words lines few rest =
    let found = filter_map hexadecimal_word lines in
    elim (cases_eq (length words) most_program_words) [
      | inl full ↦
          let later = malformed-at_least (most_program_words + 1) (length words + 1 + 1) lines (omega arith) in
          cond-true _ _ _ (eq-eqb (length words) most_program_words full) ∙ ap (λ n. Err (Words (n + 1))) full
          ∙ sym (ap (λ f. words_unless f (words ++ word ∷ found))
          (least-too_many (malformed_from (length words + 1 + 1) lines) (length words + suc (length lines)) later
          (omega arith)))
      | inr room ↦
          let one_more : length (words ++ word ∷ []) ≡ length words + 1 =
          omega (arith, length-append words (word ∷ [])) in
          let all : length words + 1 + length lines ≡ length words + suc (length lines) = omega arith in
          cond-false _ _ _ (ne_eqb (length words) most_program_words room) ∙ rest word (omega arith)
          ∙ ap (λ n. words_unless (least_line (malformed_from (n + 1) lines) (count_fault (n + length lines)))
          ((words ++ word ∷ []) ++ found)) one_more
          ∙ ap (λ n. words_unless (least_line (malformed_from (length words + 1 + 1) lines) (count_fault n))
          ((words ++ word ∷ []) ++ found)) all
          ∙ ap (λ ws. words_unless (least_line (malformed_from (length words + 1 + 1) lines)
          (count_fault (length words + suc (length lines)))) ws) (append_assoc words (word ∷ []) found)
    ]

pub read_is : (words : List ℕ) (lines : List (List ℕ)) → length words ≤ most_program_words → IsRead words lines
unfolding read_on
read_is words [] few = IsRead-nil words few
read_is words (line ∷ lines) few = IsRead-cons (hexadecimal_word line) words lines few
    (λ word small. read_is (words ++ word ∷ []) lines small)

pub program-read : (text : List ℕ) → program_of text ≡ read_on [] (lines_of text)
unfolding program_of
program-read text =
    let lines = lines_of text in
    ap (λ n. words_unless (least_line (malformed_from 1 lines) (count_fault n)) (filter_map hexadecimal_word lines))
    (sym (zero-add (length lines)))
    ∙ sym (read_is [] lines (omega arith))

some_left : (xs : List ℕ) → (length xs == 0) ≡ false → 0 < length xs
some_left xs some = let ne = eqb-false (length xs) 0 some in omega arith

read-line : (words text : List ℕ) → (length text == 0) ≡ false
    → read_on words (lines_of text) ≡ line_read (length words) (hexadecimal_word (before_first is_line_end text))
    (λ word. read_on (words ++ word ∷ []) (lines_of (after_first is_line_end text)))
unfolding read_on
read-line words text some = ap (read_on words) (lines-first text (some_left text some))

none_left : (xs : List ℕ) → (length xs == 0) ≡ true → xs ≡ []
none_left [] none = refl
none_left (x ∷ xs) none = let zero_is : length (x ∷ xs) ≡ 0 = eqb-true _ _ none in absurd (omega arith)

ended-some : (words : List ℕ) → (length words == 0) ≡ false → ended words ≡ Ok words
ended-some [] some = absurd (true≢false some)
ended-some (word ∷ words) some = refl

-- What a text's program is once so many words are read and some text is left.

module _ (text words rest : List ℕ) (left : program_of text ≡ read_on words (lines_of rest)) where
  pub at_malformed : (length rest == 0) ≡ false → hexadecimal_word (before_first is_line_end rest) ≡ None
      → program_of text ≡ Err (Words (length words + 1))
  at_malformed some none = left ∙ read-line words rest some
      ∙ ap (λ o. line_read (length words) o (λ word. read_on (words ++ word ∷ [])
      (lines_of (after_first is_line_end rest)))) none

  at_word : (word : ℕ) → (length rest == 0) ≡ false → hexadecimal_word (before_first is_line_end rest) ≡ Some word
      → program_of text ≡ (if length words == most_program_words then Err (Words (length words + 1)) else read_on
      (words ++ word ∷ []) (lines_of (after_first is_line_end rest)))
  at_word word some is = left ∙ read-line words rest some
      ∙ ap (λ o. line_read (length words) o (λ w. read_on (words ++ w ∷ [])
      (lines_of (after_first is_line_end rest)))) is

  pub at_too_many : (word : ℕ) → (length rest == 0) ≡ false
      → hexadecimal_word (before_first is_line_end rest) ≡ Some word → length words ≡ most_program_words
      → program_of text ≡ Err (Words (length words + 1))
  at_too_many word some is full = at_word word some is ∙ cond-true _ _ _ (eq-eqb (length words) most_program_words full)

  pub at_next : (word : ℕ) → (length rest == 0) ≡ false → hexadecimal_word (before_first is_line_end rest) ≡ Some word
      → (length words ≡ most_program_words → ⊥)
      → program_of text ≡ read_on (words ++ word ∷ []) (lines_of (after_first is_line_end rest))
  at_next word some is room = at_word word some is ∙ cond-false _ _ _ (ne_eqb (length words) most_program_words room)

  at_end : (length rest == 0) ≡ true → program_of text ≡ ended words
  unfolding read_on lines_of
  at_end none = left ∙ ap (λ xs. read_on words (lines_of xs)) (none_left rest none)

  pub at_end_without_words : (length rest == 0) ≡ true → (length words == 0) ≡ true → program_of text ≡ Err (Words 1)
  at_end_without_words none no_word = at_end none ∙ ap ended (none_left words no_word)

  pub at_end_with_words : (length rest == 0) ≡ true → (length words == 0) ≡ false → program_of text ≡ Ok words
  at_end_with_words none some = at_end none ∙ ended-some words some
