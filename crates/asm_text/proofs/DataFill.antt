-- A line .data v adds what .fill 1, v, 1 adds.
use Rattle.std.proofs.Common.{◌≡◌, ◌≢◌, ℕ, ◌+◌, Bool, true, false, not, cond, eqb, List, [], ◌∷◌, ◌++◌, map, length}
use Rattle.std.proofs.Common.{reverse, codes, All, Option, Some, None, Ok, Err, option_map, refl, sym, ◌∙◌, ap, subst}
use Rattle.std.proofs.Common.{arith}
use Rattle.std.proofs.Common.{ne_eqb, unwrap_or}
use Rattle.std.specs.Prelude.{◌&&◌, ◌||◌, ⊤, nat_lt}
use Rattle.std.specs.List.{list_any}
use Rattle.std.proofs.lemmas.List.{reverse-append, reverse-reverse}
use Rattle.std.proofs.lemmas.List.Elements.{All-weaker, All-cons}
use Rattle.std.proofs.lemmas.List.Folds.{list_any-append}
use Rattle.std.proofs.lemmas.List.Splits.{slice_split_at, slice_split_none}
use Rattle.text_parts.specs.Reading.{number_of_text, number_of_digits}
use Rattle.text_parts.specs.Pieces.{pieces}
use Rattle.asm_line.specs.Text.{skip_blanks, trim, is_name, head, behind_head, operands_of, operands}
use Rattle.asm_line.specs.Faults.{map_ok, ◌>>=◌, both}
use Rattle.asm_line.specs.Heads.{directive_of, directive_named}
use Rattle.insn_word.specs.declared.profiles.Profile.{Profile}
use Rattle.asm_line.specs.Operands.{Places}
use Rattle.asm_line.specs.Numbers.{count_within, number_within}
use Rattle.asm_line.specs.Directives.{item_of_directive, cells, data_cell, fill, word_number, tags_number}
use Rattle.asm_line.specs.Lines.{Line, line_item, statement_item, directive_item, label_fault, is_word}
use Rattle.asm_line.specs.Profiles.{profile_of, profile_named}
use Rattle.asm_line.specs.Lines.{word_count, count_words, place, further, stands, stands_earlier}
use Rattle.asm_line.specs.declared.fault.Fault.TheVariants as fault
use Rattle.asm_line.specs.declared.item.Item.{Item}
use Rattle.asm_line.specs.declared.item.Item.TheVariants as item
use Rattle.asm_line.specs.declared.operation.Directive.TheVariants as directive
use Rattle.asm_line.specs.declared.place.Place.{Place}
use Rattle.asm_text.specs.Drafts.{DraftValue, empty, add}
use Rattle.asm_text.specs.Sources.{with_line, with_lines, after_line, complete, meaning_of_lines}
use Rattle.asm_text.specs.DataLaws.{data_statement, fill_statement, IsOneOperand, DataLinesAreFills}

-- What the two statements say.

no_commas : (v : List ℕ) → IsOneOperand v → All (λ b. eqb b 44 ≡ false) v
no_commas v o = All-weaker (λ b. b ≢ 44) (λ b. eqb b 44 ≡ false) (λ b other. ne_eqb b 44 other) v o.no_comma

data_behind : (v : List ℕ) → behind_head (data_statement v) ≡ trim v
unfolding behind_head
data_behind v = refl

skip_last : (s : List ℕ) → skip_blanks (reverse (s ++ codes ", 1")) ≡ reverse (s ++ codes ", 1")
skip_last s = subst (λ r. skip_blanks r ≡ r) (sym (reverse-append s (codes ", 1"))) refl

fill_behind : (v : List ℕ) → behind_head (fill_statement v) ≡ codes "1, " ++ (v ++ codes ", 1")
unfolding behind_head trim
fill_behind v =
    ap reverse (skip_last (codes "1, " ++ v)) ∙ reverse-reverse (codes "1, " ++ (v ++ codes ", 1"))

fill_parts : (v : List ℕ) → IsOneOperand v
    → pieces 44 (codes "1, " ++ (v ++ codes ", 1")) ≡ codes "1" ∷ (32 ∷ v) ∷ codes " 1" ∷ []
fill_parts v o =
    let whole = All-cons (λ b. eqb b 44 ≡ false) 32 v refl (no_commas v o) in
    ap (λ ps. codes "1" ∷ ps) (slice_split_at (λ b. eqb b 44) (32 ∷ v) 44 (codes " 1") whole refl)

one_trimmed : trim (codes "1") ≡ codes "1"
unfolding trim
one_trimmed = refl

last_trimmed : trim (codes " 1") ≡ codes "1"
unfolding trim
last_trimmed = refl

blank_trimmed : (v : List ℕ) → trim (32 ∷ v) ≡ trim v
unfolding trim
blank_trimmed v = refl

three : (a b c d : List ℕ) → a ≡ codes "1" → b ≡ d → c ≡ codes "1"
    → a ∷ b ∷ c ∷ [] ≡ codes "1" ∷ d ∷ codes "1" ∷ []
three a b c d e f g = λ i. e i ∷ f i ∷ g i ∷ []

fill_operands : (v : List ℕ) → IsOneOperand v → operands (fill_statement v) ≡ codes "1" ∷ v ∷ codes "1" ∷ []
unfolding operands_of
fill_operands v o =
    ap operands_of (fill_behind v)
    ∙ ap (λ b. cond b [] (map trim (pieces 44 (codes "1, " ++ (v ++ codes ", 1")))))
    (ne_eqb (length (codes "1, " ++ (v ++ codes ", 1"))) 0 (λ e. absurd (omega (arith, e))))
    ∙ ap (λ ps. map trim ps) (fill_parts v o)
    ∙ three (trim (codes "1")) (trim (32 ∷ v)) (trim (codes " 1")) v one_trimmed (blank_trimmed v ∙ o.trimmed)
    last_trimmed

count_one : count_within 262144 (codes "1") ≡ Ok 1
unfolding count_within number_within number_of_text number_of_digits
count_one = refl

tags_one : tags_number (codes "1") ≡ Ok 1
unfolding tags_number number_within number_of_text number_of_digits
tags_one = refl

no_number : word_number [] ≡ Err fault.Operand
unfolding word_number number_within number_of_text number_of_digits
no_number = refl

fill_says : (v : List ℕ) → fill (codes "1" ∷ v ∷ codes "1" ∷ []) ≡ cells (Ok 1) (word_number v) (Ok 1)
fill_says v = λ i. cells (count_one i) (word_number v) (tags_one i)

data_operands : (v : List ℕ) → IsOneOperand v → operands_of v ≡ cond (eqb (length v) 0) [] (v ∷ [])
unfolding operands_of
data_operands v o =
    ap (λ ps. cond (eqb (length v) 0) [] (map trim ps)) (slice_split_none (λ b. eqb b 44) v (no_commas v o))
    ∙ ap (λ x. cond (eqb (length v) 0) [] (x ∷ [])) o.trimmed

-- an empty operand is no number
data_says : (v : List ℕ) → data_cell (cond (eqb (length v) 0) [] (v ∷ [])) ≡ cells (Ok 1) (word_number v) (Ok 1)
data_says [] = sym (ap (λ r. cells (Ok 1) r (Ok 1)) no_number)
data_says (x ∷ xs) =
    ap (λ b. data_cell (cond b [] ((x ∷ xs) ∷ [])))
    (ne_eqb (length (x ∷ xs)) 0 (λ e. absurd (omega (arith, e))))

data_named : (profile : Profile) → directive_of profile (codes ".data") ≡ Ok directive.Data
unfolding directive_of directive_named
data_named profile = refl

fill_named : (profile : Profile) → directive_of profile (codes ".fill") ≡ Ok directive.Fill
unfolding directive_of directive_named
fill_named profile = refl

data_head : (v : List ℕ) → head (data_statement v) ≡ codes ".data"
unfolding head
data_head v = refl

fill_head : (v : List ℕ) → head (fill_statement v) ≡ codes ".fill"
unfolding head
fill_head v = refl

data_item : (profile : Profile) (places : Places) (words : ℕ) (v : List ℕ) → IsOneOperand v
    → directive_item profile places words (data_statement v) ≡ cells (Ok 1) (word_number v) (Ok 1)
unfolding item_of_directive
data_item profile places words v o =
    ap (λ r. r >>= λ d. item_of_directive places words d (operands (data_statement v)))
    (ap (directive_of profile) (data_head v) ∙ data_named profile)
    ∙ ap (λ t. data_cell (operands_of t)) (data_behind v ∙ o.trimmed) ∙ ap data_cell (data_operands v o) ∙ data_says v

fill_item : (profile : Profile) (places : Places) (words : ℕ) (v : List ℕ) → IsOneOperand v
    → directive_item profile places words (fill_statement v) ≡ cells (Ok 1) (word_number v) (Ok 1)
unfolding item_of_directive
fill_item profile places words v o =
    ap (λ r. r >>= λ d. item_of_directive places words d (operands (fill_statement v)))
    (ap (directive_of profile) (fill_head v) ∙ fill_named profile)
    ∙ ap fill (fill_operands v o) ∙ fill_says v

-- a statement that begins with a dot is a directive
with_dot : (profile : Profile) (places : Places) (words here : ℕ) (bs : List ℕ)
    → statement_item profile places words here (46 ∷ bs) ≡ directive_item profile places words (46 ∷ bs)
unfolding statement_item
with_dot profile places words here bs =
    ap (λ b. cond b (Ok item.Nothing) (directive_item profile places words (46 ∷ bs)))
    (ne_eqb (length (46 ∷ bs)) 0 (λ e. absurd (omega (arith, e))))

same_item : (profile : Profile) (places : Places) (words here : ℕ) (v : List ℕ) → IsOneOperand v
    → statement_item profile places words here (data_statement v) ≡ statement_item profile places words here
    (fill_statement v)
same_item profile places words here v o =
    with_dot profile places words here (codes "data " ++ v) ∙ data_item profile places words v o
    ∙ sym (fill_item profile places words v o)
    ∙ sym (with_dot profile places words here (codes "fill 1, " ++ (v ++ codes ", 1")))

or_false : (b : Bool) → (b || false) ≡ b
or_false true = refl
or_false false = refl

same_colons : (v : List ℕ)
    → list_any (λ b. eqb b 58) (data_statement v) ≡ list_any (λ b. eqb b 58) (fill_statement v)
same_colons v =
    sym (list_any-append (λ b. eqb b 58) v (codes ", 1") ∙ or_false (list_any (λ b. eqb b 58) v))

same_label : (places : Places) (k : ℕ) (label : Option (List ℕ)) (s t : List ℕ)
    → list_any (λ b. eqb b 58) s ≡ list_any (λ b. eqb b 58) t
    → label_fault places k label s ≡ label_fault places k label t
unfolding label_fault
same_label places k None s t e = refl
same_label places k (Some name) s t e =
    ap (λ b. cond (is_name name && not b) (cond (stands_earlier k (places name)) (Err fault.LabelTwice) (Ok tt))
    (Err fault.Unknown)) e

abbrev pub data_line : Option (List ℕ) → List ℕ → Line
data_line label v = record { label = label; statement = data_statement v }

abbrev pub fill_line : Option (List ℕ) → List ℕ → Line
fill_line label v = record { label = label; statement = fill_statement v }

same_added : (profile : Profile) (places : Places) (words k : ℕ) (d : DraftValue) (label : Option (List ℕ))
    (v : List ℕ) → IsOneOperand v
    → with_line profile places words k d (data_line label v) ≡ with_line profile places words k d (fill_line label v)
unfolding with_line line_item
same_added profile places words k d label v o =
    let labels = same_label places k label (data_statement v) (fill_statement v) (same_colons v) in
    let items = same_item profile places words (length d.words) v o in
    λ i. map_ok (λ (w : ⊤ × Item). w.1) (both (labels i) (items i)) >>= add d

and_false : (b : Bool) → (b && false) ≡ false
and_false true = refl
and_false false = refl

data_no_word : (v : List ℕ) → is_word (data_statement v) ≡ false
unfolding is_word head
data_no_word v = and_false (nat_lt 0 (length (data_statement v)))

fill_no_word : (v : List ℕ) → is_word (fill_statement v) ≡ false
unfolding is_word head
fill_no_word v = and_false (nat_lt 0 (length (fill_statement v)))

same_count : (label : Option (List ℕ)) (v : List ℕ) → word_count (data_line label v) ≡ word_count (fill_line label v)
same_count label v = ap (λ b. cond b 1 0) (data_no_word v ∙ sym (fill_no_word v))

-- Two lines that add the same are the same among other lines.

lines_same : (profile : Profile) (places : Places) (words k : ℕ) (d : DraftValue) (before after : List Line)
    (l m : Line)
    → ((n : ℕ) (e : DraftValue) → with_line profile places words n e l ≡ with_line profile places words n e m)
    → with_lines profile places words k d (before ++ l ∷ after) ≡ with_lines profile places words k d
    (before ++ m ∷ after)
lines_same profile places words k d [] after l m same =
    ap (λ r. after_line r k (λ e. with_lines profile places words (k + 1) e after)) (same k d)
lines_same profile places words k d (b ∷ bs) after l m same =
    λ i. after_line (with_line profile places words k d b) k
    (λ e. lines_same profile places words (k + 1) e bs after l m same i)

count_same : (before after : List Line) (l m : Line) → word_count l ≡ word_count m
    → count_words (before ++ l ∷ after) ≡ count_words (before ++ m ∷ after)
count_same [] after l m same = ap (λ n. n + count_words after) same
count_same (b ∷ bs) after l m same = ap (λ n. word_count b + n) (count_same bs after l m same)

places_same : (before after : List Line) (l m : Line) (name : List ℕ) → l.label ≡ m.label
    → word_count l ≡ word_count m
    → place (before ++ l ∷ after) name ≡ place (before ++ m ∷ after) name
unfolding place
places_same [] after l m name labels counts =
    λ i. cond (stands name (labels i)) (Some (record { line = 0; value = 0 }))
    (option_map (λ (p : Place). record { line = p.line + 1; value = p.value + counts i }) (place after name))
places_same (b ∷ bs) after l m name labels counts =
    ap (λ o. cond (stands name b.label) (Some (record { line = 0; value = 0 })) (option_map (further b) o))
    (places_same bs after l m name labels counts)

data_no_profile : (label : Option (List ℕ)) (v : List ℕ) → profile_named (data_line label v) ≡ None
unfolding profile_named head
data_no_profile label v = refl

fill_no_profile : (label : Option (List ℕ)) (v : List ℕ) → profile_named (fill_line label v) ≡ None
unfolding profile_named head
fill_no_profile label v = refl

profile_same : (before after : List Line) (l m : Line) → profile_named l ≡ profile_named m
    → profile_of (before ++ l ∷ after) ≡ profile_of (before ++ m ∷ after)
profile_same [] after l m same = ap (λ o. unwrap_or o (profile_of after)) same
profile_same (b ∷ bs) after l m same = ap (λ p. unwrap_or (profile_named b) p) (profile_same bs after l m same)

pub data_lines : DataLinesAreFills
unfolding meaning_of_lines
data_lines before after label v o =
    let l = data_line label v in
    let m = fill_line label v in
    let ls = before ++ l ∷ after in
    let count = count_same before after l m (same_count label v) in
    let profile = profile_same before after l m (data_no_profile label v ∙ sym (fill_no_profile label v)) in
    ap (complete (profile_of ls))
    (lines_same (profile_of ls) (place ls) (count_words ls) 0 empty before after l m
    (λ n e. same_added (profile_of ls) (place ls) (count_words ls) n e label v o))
    ∙ λ i. complete (profile i)
    (with_lines (profile i) (λ name. places_same before after l m name refl (same_count label v) i) (count i) 0 empty
    (before ++ m ∷ after))
