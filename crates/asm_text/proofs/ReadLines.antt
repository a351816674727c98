-- Lines that are each read as an item, one after another.
use Rattle.std.proofs.Common.{◌≡◌, ℕ, ◌+◌, Bool, true, false, cond, eqb, ltb, leb, List, [], ◌∷◌}
use Rattle.std.proofs.Common.{◌++◌, map, length}
use Rattle.std.proofs.Common.{Some, None, Result, Ok, refl, ◌∙◌, ap, arith, append_assoc}
use Rattle.std.proofs.Common.{le-ltb}
use Rattle.std.specs.Prelude.{codes}
use Rattle.std.specs.List.{All, list_all, position, position_or_len}
use Rattle.std.proofs.lemmas.Bool.Decides.{nat_tests, Decides-by_and}
use Rattle.std.proofs.lemmas.List.Elements.{All-append, All-nil, All-cons, All-weaker}
use Rattle.std.proofs.lemmas.List.Splits.{slice_split_at}
use Rattle.std.proofs.lemmas.List.Sums.{position_or_len_is}
use Rattle.asm_line.specs.Text.{trim}
use Rattle.text_parts.specs.Pieces.{text_after, pieces}
use Rattle.asm_line.specs.Faults.{◌>>=◌}
use Rattle.insn_word.specs.declared.profiles.Profile.{Profile}
use Rattle.asm_line.specs.Operands.{Places}
use Rattle.asm_line.specs.Lines.{Line, line, lines, line_item, label_fault, statement_item, is_word}
use Rattle.asm_line.specs.Lines.{count_words}
use Rattle.asm_line.specs.declared.fault.Fault.{Fault}
use Rattle.asm_line.specs.declared.item.Item.{Item}
use Rattle.asm_line.specs.declared.item.Item.TheVariants as item
use Rattle.listing_line.specs.Laws.{IsReadAs, is_line_byte}
use Rattle.asm_text.specs.declared.fault.AsmFault.{AsmFault}
use Rattle.asm_text.specs.Drafts.{DraftValue, add}
use Rattle.asm_text.specs.Sources.{with_line, with_lines, after_line, not_ascii, line_of}
use Rattle.asm_text.specs.Listing.{with_line_end, text_of_lines}
use Rattle.asm_text.proofs.Counted.{bound}

abbrev pub counts : Item → Bool
counts (item.Instruction i) = true
counts (item.Word w) = true
counts _ = false

-- each line is read as its item
abbrev pub AreRead : Profile → ℕ → List (List ℕ) → List Item → Type 0
AreRead profile words [] [] = Unit {0}
AreRead profile words [] (i ∷ is) = ⊥
AreRead profile words (l ∷ ls) [] = ⊥
AreRead profile words (l ∷ ls) (i ∷ is) = IsReadAs profile l (counts i) words i × AreRead profile words ls is

pub read_both : (profile : Profile) (words : ℕ) (ks ls : List (List ℕ)) (is js : List Item)
    → AreRead profile words ks is → AreRead profile words ls js
    → AreRead profile words (ks ++ ls) (is ++ js)
read_both profile words [] ls [] js h g = g
read_both profile words [] ls (i ∷ is) js h g = absurd h
read_both profile words (k ∷ ks) ls [] js h g = absurd h
read_both profile words (k ∷ ks) ls (i ∷ is) js h g = (h.0, read_both profile words ks ls is js h.1 g)

-- what items add, one after another
abbrev pub add_all : DraftValue → List Item → Result DraftValue Fault
add_all d [] = Ok d
add_all d (i ∷ is) = add d i >>= λ e. add_all e is

line_added : (profile : Profile) (places : Places) (words k : ℕ) (d : DraftValue) (l : List ℕ) (c : Bool) (i : Item)
    → IsReadAs profile l c words i
    → with_line profile places words k d (line l) ≡ add d i
unfolding with_line
line_added profile places words k d l c i h = ap (λ r. r >>= add d) (h.adds places k (length d.words))

pub lines_added : (profile : Profile) (places : Places) (words k : ℕ) (d e : DraftValue) (ls : List (List ℕ))
    (is : List Item)
    (tail : List Line)
    (whole : Result DraftValue AsmFault)
    → AreRead profile words ls is → add_all d is ≡ Ok e → ((n : ℕ) → with_lines profile places words n e tail ≡ whole)
    → with_lines profile places words k d (map line ls ++ tail) ≡ whole
lines_added profile places words k d e [] [] tail whole h all rest =
    let at : d ≡ e = cc in ap (λ f. with_lines profile places words k f tail) at ∙ rest k
lines_added profile places words k d e [] (i ∷ is) tail whole h all rest = absurd h
lines_added profile places words k d e (l ∷ ls) [] tail whole h all rest = absurd h
lines_added profile places words k d e (l ∷ ls) (i ∷ is) tail whole h all rest =
    let b = bound (add d i) (λ f. add_all f is) e all in
    ap (λ r. after_line r k (λ f. with_lines profile places words (k + 1) f (map line ls ++ tail)))
    (line_added profile places words k d l (counts i) i h.0 ∙ b.1)
    ∙ lines_added profile places words (k + 1) b.0 e ls is tail whole h.1 b.2 rest

empty_adds : (profile : Profile) (places : Places) (words k here : ℕ)
    → line_item profile places words k here (line []) ≡ Ok item.Nothing
unfolding line_item label_fault statement_item line trim text_after
empty_adds profile places words k here = refl

empty_added : (profile : Profile) (places : Places) (words k : ℕ) (d : DraftValue)
    → with_line profile places words k d (line []) ≡ Ok d
unfolding with_line add
empty_added profile places words k d = ap (λ r. r >>= add d) (empty_adds profile places words k (length d.words))

-- behind the last line end
pub last_line : (profile : Profile) (places : Places) (words : ℕ) (d : DraftValue) (n : ℕ)
    → with_lines profile places words n d (line [] ∷ []) ≡ Ok d
last_line profile places words d n =
    ap (λ r. after_line r n (λ f. with_lines profile places words (n + 1) f [])) (empty_added profile places words n d)

empty_counts : is_word (line []).statement ≡ false
unfolding is_word line trim text_after
empty_counts = refl

abbrev pub count_items : List Item → ℕ
count_items [] = 0
count_items (i ∷ is) = cond (counts i) 1 0 + count_items is

pub lines_counted : (profile : Profile) (words : ℕ) (ls : List (List ℕ)) (is : List Item) → AreRead profile words ls is
    → count_words (map line ls ++ line [] ∷ []) ≡ count_items is
lines_counted profile words [] [] h = ap (λ b. cond b 1 0 + 0) empty_counts
lines_counted profile words [] (i ∷ is) h = absurd h
lines_counted profile words (l ∷ ls) [] h = absurd h
lines_counted profile words (l ∷ ls) (i ∷ is) h =
    ap (λ b. cond b 1 0 + count_words (map line ls ++ line [] ∷ [])) h.0.counted
    ∙ ap (λ n. cond (counts i) 1 0 + n) (lines_counted profile words ls is h.1)

-- The text of lines without line ends is cut into these lines.

all_true : (p : ℕ → Bool) (xs : List ℕ) → list_all p xs ≡ true → All (λ x. p x ≡ true) xs
all_true p xs e = (Decides-by_and p (λ x. p x ≡ true) (list_all p) (λ x. (λ h. h, λ h. h)) refl (λ _ _. refl) xs).0 e

no_end : (b : ℕ) → is_line_byte b ≡ true → eqb b 10 ≡ false
no_end b e = grind (arith, nat_tests)

is_ascii : (b : ℕ) → is_line_byte b ≡ true → leb 128 b ≡ false
is_ascii b e = grind (arith, nat_tests)

pub text_cut : (profile : Profile) (words : ℕ) (ls : List (List ℕ)) (is : List Item) → AreRead profile words ls is
    → lines (text_of_lines ls) ≡ map line ls ++ line [] ∷ []
text_cut profile words [] [] h = refl
text_cut profile words [] (i ∷ is) h = absurd h
text_cut profile words (l ∷ ls) [] h = absurd h
text_cut profile words (l ∷ ls) (i ∷ is) h =
    let whole =
    All-weaker (λ b. is_line_byte b ≡ true) (λ b. eqb b 10 ≡ false) no_end l (all_true is_line_byte l h.0.one_line) in
    ap (λ t. map line (pieces 10 t)) (append_assoc l (codes "\n") (text_of_lines ls))
    ∙ ap (λ ps. map line ps) (slice_split_at (λ b. eqb b 10) l 10 (text_of_lines ls) whole refl)
    ∙ ap (λ rest. line l ∷ rest) (text_cut profile words ls is h.1)

text_ascii : (profile : Profile) (words : ℕ) (ls : List (List ℕ)) (is : List Item) → AreRead profile words ls is
    → All (λ b. leb 128 b ≡ false) (text_of_lines ls)
text_ascii profile words [] [] h = All-nil (λ b. leb 128 b ≡ false)
text_ascii profile words [] (i ∷ is) h = absurd h
text_ascii profile words (l ∷ ls) [] h = absurd h
text_ascii profile words (l ∷ ls) (i ∷ is) h =
    let Ascii : ℕ → Type 0 = λ b. leb 128 b ≡ false in
    All-append Ascii (with_line_end l) (text_of_lines ls)
    (All-append Ascii l (codes "\n")
    (All-weaker (λ b. is_line_byte b ≡ true) Ascii is_ascii l (all_true is_line_byte l h.0.one_line))
    (All-cons Ascii 10 [] refl (All-nil Ascii)))
    (text_ascii profile words ls is h.1)

none_passes : (p : ℕ → Bool) (xs : List ℕ) → All (λ b. p b ≡ false) xs → position p xs ≡ None
none_passes p xs h =
    let past =
    position_or_len_is p xs (length xs) 0 (omega arith) (λ k here. h k 0 here) (λ more. absurd (omega arith)) in
    let test : ltb (position_or_len p xs) (length xs) ≡ false =
    le-ltb (position_or_len p xs) (length xs) (omega arith) in
    ap (λ b. cond b (Some (position_or_len p xs)) None) test

pub text_is_ascii : (profile : Profile) (words : ℕ) (ls : List (List ℕ)) (is : List Item) → AreRead profile words ls is
    → not_ascii (text_of_lines ls) ≡ None
unfolding not_ascii
text_is_ascii profile words ls is h =
    ap (line_of (text_of_lines ls)) (none_passes (λ b. leb 128 b) (text_of_lines ls) (text_ascii profile words ls is h))
