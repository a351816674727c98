-- Printed directives are read back.
use Rattle.std.proofs.Common.{◌≡◌, ℕ, ◌-◌, ◌<◌, ◌^◌, true, [], ◌∷◌, refl, arith}
use Rattle.std.specs.Prelude.{Ok}
use Rattle.std.specs.Fmt.{decimal}
use Rattle.std.proofs.lemmas.Bool.{and_from, lt-ltb}
use Rattle.text_parts.specs.Laws.{HexadecimalReadsBack}
use Rattle.insn_word.specs.declared.profiles.Profile.{Profile}
use Rattle.insn_word.specs.declared.profiles.Profile.TheVariants as profile
use Rattle.asm_line.specs.Names.{directive_name, has_directive, profile_number}
use Rattle.asm_line.specs.Profiles.{profile_named}
use Rattle.asm_line.specs.Operands.{Places}
use Rattle.asm_line.specs.Directives.{profile_read, item_of_directive, entry_number, tags_number}
use Rattle.asm_line.specs.declared.operation.Directive.{Directive}
use Rattle.asm_line.specs.declared.operation.Directive.TheVariants as directive
use Rattle.asm_line.specs.declared.item.Item.{Item}
use Rattle.asm_line.specs.declared.item.Item.TheVariants as item
use Rattle.listing_line.specs.WordText.{digits_text}
use Rattle.listing_line.specs.DirectiveLines.{number_line, profile_line, slim_line, retry_line, trap_line, entry_line}
use Rattle.listing_line.specs.DirectiveLines.{chain_line, fill_line}
use Rattle.listing_line.specs.Laws.{IsReadAs, ProfileLinesReadBack, ProfileLinesTell, SlimLinesReadBack}
use Rattle.listing_line.specs.Laws.{ChainLinesReadBack, RetryLinesReadBack, TrapLinesReadBack}
use Rattle.listing_line.specs.Laws.{EntryLinesReadBack, FillLinesReadBack}
use Rattle.listing_line.proofs.Statements.{is_term, all_terms, statement}
use Rattle.listing_line.proofs.Numbers.{decimal-term, number_within-decimal, count_within-decimal, immediate-decimal}
use Rattle.listing_line.proofs.Numbers.{digits_text-term, word_number-digits}
use Rattle.listing_line.proofs.Lines.{is_program_word, directive-line, directive-cut}

number-line : (p : Profile) (d : Directive) (number words : ℕ) (added : Item) → has_directive p d ≡ true
    → number < 2 ^ 64
    → ((places : Places) → item_of_directive places words d (decimal number ∷ []) ≡ Ok added)
    → IsReadAs p (number_line d number) (is_program_word d) words added
number-line p d number words added has h reads =
    directive-line p d (decimal number ∷ []) words added has
    (and_from (is_term (decimal number)) true (decimal-term number h) refl) reads

profile-read : (named : Profile) → profile_read (decimal (profile_number named) ∷ []) ≡ Ok named
unfolding profile_read
profile-read profile.One = rw (count_within-decimal 2 1 (omega arith) (omega arith) (omega arith))
profile-read profile.Two = rw (count_within-decimal 2 2 (omega arith) (omega arith) (omega arith))

small_number : (named : Profile) → profile_number named < 2 ^ 64
small_number profile.One = omega arith
small_number profile.Two = omega arith

pub profile-lines : ProfileLinesReadBack
unfolding profile_line item_of_directive
profile-lines p named words =
    number-line p directive.Profile (profile_number named) words (item.Profile named) refl (small_number named)
    (λ places. rw (profile-read named))

pub profile-tells : ProfileLinesTell
unfolding profile_line profile_named
profile-tells named =
    let ops = decimal (profile_number named) ∷ [] in
    let terms = and_from (is_term (decimal (profile_number named))) true
    (decimal-term (profile_number named) (small_number named)) refl in
    let s = statement (directive_name directive.Profile) ops refl terms in
    rw (directive-cut directive.Profile ops refl terms, s.head_is, s.operands_are, profile-read named)

pub slim-lines : SlimLinesReadBack
unfolding slim_line item_of_directive
slim-lines p slim words low high =
    number-line p directive.Slim slim words (item.Slim slim) refl (omega arith)
    (λ places. rw (count_within-decimal 128 slim (omega arith) low high))

pub chain-lines : ChainLinesReadBack
unfolding chain_line item_of_directive
chain-lines limit words h =
    number-line profile.Two directive.Chain limit words (item.Chain limit) refl (omega arith)
    (λ places. rw (number_within-decimal 64 limit (omega arith) h))

pub retry-lines : RetryLinesReadBack
unfolding retry_line item_of_directive
retry-lines p retry words h =
    number-line p directive.Retry retry words (item.Retry retry) refl (omega arith)
    (λ places. rw (number_within-decimal (2 ^ 32 - 1) retry (omega arith) (omega arith)))

pub trap-lines : TrapLinesReadBack
unfolding trap_line item_of_directive
trap-lines p trap words h =
    number-line p directive.Trap trap words (item.Trap trap) refl (omega arith)
    (λ places. rw (immediate-decimal places trap h))

pub entry-lines : EntryLinesReadBack
unfolding entry_line item_of_directive entry_number
entry-lines p entry words h k =
    number-line p directive.Entry entry words (item.Entry entry) refl (omega arith)
    (λ places. rw (immediate-decimal places entry k, lt-ltb entry words h))

pub fill-lines : HexadecimalReadsBack → FillLinesReadBack
unfolding fill_line item_of_directive tags_number
fill-lines law p count value tags words low high v t =
    let more = and_from (is_term (decimal tags)) true (decimal-term tags (omega arith)) refl in
    let rest =
    and_from (is_term (digits_text value)) (all_terms (decimal tags ∷ [])) (digits_text-term law value v) more in
    directive-line p directive.Fill (decimal count ∷ digits_text value ∷ decimal tags ∷ []) words
    (item.Cells count value tags) refl
    (and_from (is_term (decimal count)) (all_terms (digits_text value ∷ decimal tags ∷ []))
    (decimal-term count (omega arith)) rest)
    (λ places. rw (
      count_within-decimal 262144 count (omega arith) low high,
      word_number-digits law value v,
      number_within-decimal 15 tags (omega arith) (omega arith),
    ))
