-- Printed lines are read back.
use Rattle.std.proofs.Common.{◌≡◌, ℕ, ◌/◌, ◌%◌, ◌<◌, ◌^◌, zero, suc, Bool, true, false, not, List, [], ◌∷◌, ◌++◌}
use Rattle.std.proofs.Common.{length, get_or, refl, sym, ap, ◌∙◌, arith, append_assoc}
use Rattle.std.specs.Prelude.{◌==◌, codes, Option, Some, None, Ok}
use Rattle.std.specs.List.{list_all}
use Rattle.std.specs.Str.{bytes_eq}
use Rattle.std.specs.Fmt.{digit_glyph}
use Rattle.std.proofs.lemmas.Bool.{and_from, le-ltb}
use Rattle.std.proofs.lemmas.Bool.Decides.{nat_tests}
use Rattle.insn_word.specs.Words.{SpellsIn}
use Rattle.insn_word.specs.Reading.{InstructionIsSpelt}
use Rattle.insn_word.specs.Reading as reading
use Rattle.insn_word.specs.declared.profiles.Profile.{Profile}
use Rattle.insn_word.specs.declared.insn.Insn.{Insn}
use Rattle.text_parts.specs.Digits.{fixed_digits, hexadecimal_16, five_digits}
use Rattle.text_parts.specs.Laws.{HexadecimalReadsBack}
use Rattle.text_parts.specs.Pieces.{text_after}
use Rattle.asm_line.specs.Names.{directive_name, has_directive}
use Rattle.asm_line.specs.Heads.{directive_of, directive_named}
use Rattle.asm_line.specs.Operands.{Places}
use Rattle.asm_line.specs.Directives.{item_of_directive}
use Rattle.asm_line.specs.Lines.{Line, line, line_item, is_word, statement_item, label_fault}
use Rattle.asm_line.specs.declared.operation.Directive.{Directive}
use Rattle.asm_line.specs.declared.operation.Directive.TheVariants as directive
use Rattle.asm_line.specs.declared.item.Item.{Item}
use Rattle.asm_line.specs.declared.item.Item.TheVariants as item
use Rattle.listing_line.specs.WordText.{statement_text, digits_text, insn_text, raw_text, instruction_or_raw_text}
use Rattle.listing_line.specs.WordText.{word_text}
use Rattle.listing_line.specs.WordText.{place_comment, word_line}
use Rattle.listing_line.specs.Laws.{is_line_byte, IsReadAs, item_of, word_item, WordLinesReadBack}
use Rattle.listing_line.proofs.Bytes.{list_all-imp, list_all-both, position-lacks, before-at, before-lacks, IsTrimmed}
use Rattle.listing_line.proofs.Bytes.{trim-trimmed, trim-blank_behind}
use Rattle.listing_line.proofs.Statements.{is_term, all_terms, atoms-ink, not_empty, some_bytes}
use Rattle.listing_line.proofs.Statements.{statement}
use Rattle.listing_line.proofs.Numbers.{hexadecimal-digits, hexadecimal-atoms, digits_text-term}
use Rattle.listing_line.proofs.Numbers.{word_number-digits}
use Rattle.listing_line.proofs.Joined.{is_print, ink-prints}
use Rattle.listing_line.proofs.Instructions.{spelt-instruction}

-- Bytes.

print-no_colon : (b : ℕ) → is_print b ≡ true → not (b == 58) ≡ true
print-no_colon b e = grind (arith, nat_tests)

print-no_semicolon : (b : ℕ) → is_print b ≡ true → not (b == 59) ≡ true
print-no_semicolon b e = grind (arith, nat_tests)

print-line_byte : (b : ℕ) → is_print b ≡ true → is_line_byte b ≡ true
print-line_byte b e = grind (arith, nat_tests)

pub prints-one_line : (xs : List ℕ) → list_all is_print xs ≡ true → list_all is_line_byte xs ≡ true
prints-one_line xs e = list_all-imp is_print is_line_byte print-line_byte xs e

-- A statement alone on its line, and one with a comment.

-- what is left of a line without its comment
pub record IsShown (text : List ℕ) : Type 0 where
  pub trimmed : IsTrimmed text
  pub print : list_all is_print text ≡ true

no_label : (text : List ℕ) → IsShown text → text_after 58 text ≡ None
unfolding text_after
no_label text s =
    let lack = list_all-imp is_print (λ b. not (b == 58)) print-no_colon text s.print in
    rw (position-lacks (λ b. b == 58) text lack, le-ltb (length text) (length text) (omega arith))

line-bare : (text : List ℕ) → IsShown text → line text ≡ record { label = None; statement = text }
unfolding line
line-bare text s =
    let lack = list_all-imp is_print (λ b. not (b == 59)) print-no_semicolon text s.print in
    rw (before-lacks (λ b. b == 59) text lack, trim-trimmed text s.trimmed, no_label text s)

line-commented : (text comment : List ℕ) → IsShown text
    → line (text ++ (32 ∷ 59 ∷ comment)) ≡ record { label = None; statement = text }
unfolding line
line-commented text comment s =
    let lack = list_all-imp is_print (λ b. not (b == 59)) print-no_semicolon text s.print in
    let clear = list_all-both (λ b. not (b == 59)) text (32 ∷ []) lack refl in
    rw (
      sym (append_assoc text (32 ∷ []) (59 ∷ comment)),
      before-at (λ b. b == 59) (text ++ 32 ∷ []) 59 comment clear refl,
      trim-blank_behind text s.trimmed,
      no_label text s,
    )

read_as : (profile : Profile) (bytes text : List ℕ) (counts : Bool) (words : ℕ) (added : Item)
    → list_all is_line_byte bytes ≡ true
    → line bytes ≡ record { label = None; statement = text } → is_word text ≡ counts
    → ((places : Places) (here : ℕ) → statement_item profile places words here text ≡ Ok added)
    → IsReadAs profile bytes counts words added
unfolding line_item label_fault
read_as profile bytes text counts words added one cut counted adds = record {
  one_line = one;
  no_label = ap (λ (l : Line). l.label) cut;
  counted = rw cut counted;
  adds = λ places k here. rw (cut, adds places here);
}

-- Directives.

abbrev pub is_program_word : Directive → Bool
is_program_word directive.Word = true
is_program_word _ = false

record IsDirectiveHead (profile : Profile) (d : Directive) : Type 0 where
  term : is_term (directive_name d) ≡ true
  names : directive_of profile (directive_name d) ≡ Ok d
  dot : get_or (directive_name d) 0 0 ≡ 46
  counts : bytes_eq (directive_name d) (codes ".word") ≡ is_program_word d

directive-head : (profile : Profile) (d : Directive) → has_directive profile d ≡ true → IsDirectiveHead profile d
unfolding directive_of directive_named
directive-head profile directive.Word h = record { term = refl; names = refl; dot = refl; counts = refl }
directive-head profile directive.Chain h = record { term = refl; names = rw h refl; dot = refl; counts = refl }
directive-head profile _ h = record { term = refl; names = refl; dot = refl; counts = refl }

pub record IsDirective (profile : Profile) (text : List ℕ) (d : Directive) (words : ℕ) (added : Item) : Type 0 where
  pub shown : IsShown text
  pub counted : is_word text ≡ is_program_word d
  pub adds : (places : Places) (here : ℕ) → statement_item profile places words here text ≡ Ok added

directive-statement : (profile : Profile) (d : Directive) (ops : List (List ℕ)) (words : ℕ) (added : Item)
    → has_directive profile d ≡ true → all_terms ops ≡ true
    → ((places : Places) → item_of_directive places words d ops ≡ Ok added)
    → IsDirective profile (statement_text (directive_name d) ops) d words added
unfolding is_word statement_item
directive-statement profile d ops words added has e reads =
    let h = directive-head profile d has in
    let s = statement (directive_name d) ops h.term e in
    let text = statement_text (directive_name d) ops in
    let first : get_or text 0 0 ≡ 46 = s.first ∙ h.dot in record {
      shown = record { trimmed = s.trimmed; print = ink-prints text s.ink };
      counted = rw (some_bytes text s.trimmed.front, first, s.head_is) h.counts;
      adds = λ places here.
          rw (not_empty text s.trimmed.front, first, s.head_is, h.names, s.operands_are, reads places);
    }

pub directive-cut : (d : Directive) (ops : List (List ℕ)) → is_term (directive_name d) ≡ true → all_terms ops ≡ true
    → line (statement_text (directive_name d) ops)
    ≡ record { label = None; statement = statement_text (directive_name d) ops }
directive-cut d ops t e =
    let s = statement (directive_name d) ops t e in
    let text = statement_text (directive_name d) ops in
    line-bare text (record { trimmed = s.trimmed; print = ink-prints text s.ink })

pub directive-line : (profile : Profile) (d : Directive) (ops : List (List ℕ)) (words : ℕ) (added : Item)
    → has_directive profile d ≡ true → all_terms ops ≡ true
    → ((places : Places) → item_of_directive places words d ops ≡ Ok added)
    → IsReadAs profile (statement_text (directive_name d) ops) (is_program_word d) words added
directive-line profile d ops words added has e reads =
    let s = directive-statement profile d ops words added has e reads in
    let text = statement_text (directive_name d) ops in
    read_as profile text text (is_program_word d) words added (prints-one_line text s.shown.print)
    (line-bare text s.shown)
    s.counted s.adds

-- Program words.

glyph-one_line : (d : ℕ) → d < 10 → list_all is_line_byte (digit_glyph true d ∷ []) ≡ true
glyph-one_line d small = grind (arith, nat_tests)

digits-one_line : (count n : ℕ) → list_all is_line_byte (fixed_digits 10 count n) ≡ true
unfolding fixed_digits
digits-one_line zero n = refl
digits-one_line (suc k) n =
    list_all-both is_line_byte (fixed_digits 10 k (n / 10)) (digit_glyph true (n % 10) ∷ [])
    (digits-one_line k (n / 10)) (glyph-one_line (n % 10) (omega arith))

comment-one_line : HexadecimalReadsBack → (place word : ℕ) → place < 2 ^ 16 → word < 2 ^ 64
    → list_all is_line_byte (place_comment place word) ≡ true
unfolding place_comment
comment-one_line law place word h k =
    let word_digits = hexadecimal_16 word in
    let printed = prints-one_line word_digits
    (ink-prints word_digits
    (atoms-ink word_digits (hexadecimal-atoms word_digits word (hexadecimal-digits law word k)))) in
    list_all-both is_line_byte (five_digits place) (32 ∷ word_digits) (digits-one_line 5 place) printed

comment-cut : (text : List ℕ) (place word : ℕ) → IsShown text
    → line (text ++ place_comment place word) ≡ record { label = None; statement = text }
unfolding place_comment
comment-cut text place word s = line-commented text (32 ∷ (five_digits place ++ (32 ∷ hexadecimal_16 word))) s

commented-line : HexadecimalReadsBack → (profile : Profile) (text : List ℕ) (place word words : ℕ) (added : Item)
    → place < 2 ^ 16
    → word < 2 ^ 64
    → IsShown text → is_word text ≡ true
    → ((places : Places) (here : ℕ) → statement_item profile places words here text ≡ Ok added)
    → IsReadAs profile (text ++ place_comment place word) true words added
commented-line law profile text place word words added h k s counted adds =
    let one = list_all-both is_line_byte text (place_comment place word) (prints-one_line text s.print)
    (comment-one_line law place word h k) in
    read_as profile (text ++ place_comment place word) text true words added one
    (comment-cut text place word s) counted adds

raw-statement : HexadecimalReadsBack → (profile : Profile) (word words : ℕ) → word < 2 ^ 64
    → IsDirective profile (raw_text word) directive.Word words (item.Word word)
unfolding raw_text item_of_directive
raw-statement law profile word words h =
    directive-statement profile directive.Word (digits_text word ∷ []) words (item.Word word) refl
    (and_from (is_term (digits_text word)) true (digits_text-term law word h) refl)
    (λ places. rw (word_number-digits law word h))

record IsInstructionStatement (profile : Profile) (text : List ℕ) (words : ℕ) (i : Insn) : Type 0 where
  shown : IsShown text
  counted : is_word text ≡ true
  adds : (places : Places) (here : ℕ) → statement_item profile places words here text ≡ Ok (item.Instruction i)

instruction-statement : (profile : Profile) (word words : ℕ) (i : Insn) → SpellsIn profile word i
    → IsInstructionStatement profile (insn_text i) words i
unfolding is_word statement_item
instruction-statement profile word words i s =
    let text = insn_text i in
    let p = (spelt-instruction profile (λ name. None) 0 word i s).printed in record {
      shown = record { trimmed = p.trimmed; print = p.print };
      counted = rw (some_bytes text p.trimmed.front, p.no_dot);
      adds = λ places here. rw
          (not_empty text p.trimmed.front, p.no_dot, (spelt-instruction profile places here word i s).reads);
    }

pub word-lines : InstructionIsSpelt → HexadecimalReadsBack → WordLinesReadBack
unfolding word_line word_text word_item
word-lines spelt law profile place word words h k = go (reading.instruction_in profile word) refl
  where
    go : (o : Option Insn) → reading.instruction_in profile word ≡ o
        → IsReadAs profile (instruction_or_raw_text word o ++ place_comment place word) true words (item_of word o)
    go None e =
        let s = raw-statement law profile word words k in
        commented-line law profile (raw_text word) place word words (item.Word word) h k s.shown s.counted s.adds
    go (Some i) e =
        let s = instruction-statement profile word words i ((spelt profile word i).0 e) in
        commented-line law profile (insn_text i) place word words (item.Instruction i) h k s.shown s.counted s.adds
