-- What the two passes find is what the text means.
use Rattle.std.proofs.Common.{◌≡◌, ℕ, List, Some, None, Result, Ok, Err, sym, ◌∙◌, ap}
use Rattle.image_file.specs.ImageValue.{ImageValue}
use Rattle.insn_word.specs.declared.profiles.Profile.{Profile}
use Rattle.asm_line.specs.Operands.{Places}
use Rattle.asm_line.specs.Lines.{lines, place, count_words}
use Rattle.asm_line.specs.Profiles.{profile_of}
use Rattle.asm_line.specs.declared.fault.Fault.TheVariants as fault
use Rattle.asm_text.specs.declared.fault.AsmFault.{AsmFault}
use Rattle.asm_text.specs.Drafts.{DraftValue, empty}
use Rattle.asm_text.specs.Sources.{with_lines, not_ascii, image_or_incomplete, complete, meaning_of, meaning_of_lines}
use Rattle.asm_text.specs.Sources.{meaning_unless}
use Rattle.asm_text.specs.Sources.{Means, HasFault}
use Rattle.std.specs.Prelude.{◌≢◌, MatchResult, IfOk, IfErr}

pub with_byte : (text : List ℕ) (k : ℕ) → not_ascii text ≡ Some k
    → meaning_of text ≡ Err (record { line = k; kind = fault.NotAscii })
unfolding meaning_of
with_byte text k is = ap (λ o. meaning_unless o (lines text)) is

-- the profile, the places and the number of words that a first pass found
pub record IsFound (text : List ℕ) (profile : Profile) (places : Places) (words : ℕ) : Type 0 where
  pub ascii : not_ascii text ≡ None
  pub profile_is : profile ≡ profile_of (lines text)
  pub places_are : places ≡ place (lines text)
  pub words_are : words ≡ count_words (lines text)

pub by_lines : (text : List ℕ) (profile : Profile) (places : Places) (words : ℕ) → IsFound text profile places words
    → meaning_of text ≡ complete profile (with_lines profile places words 0 empty (lines text))
unfolding meaning_of meaning_of_lines
by_lines text profile places words f =
    ap (λ o. meaning_unless o (lines text)) f.ascii
    ∙ sym
    (λ i. complete (f.profile_is i) (with_lines (f.profile_is i) (f.places_are i) (f.words_are i) 0 empty (lines text)))

pub draft_refused : (text : List ℕ) (profile : Profile) (places : Places) (words : ℕ) (e : AsmFault)
    → IsFound text profile places words
    → with_lines profile places words 0 empty (lines text) ≡ Err e → meaning_of text ≡ Err e
draft_refused text profile places words e f is = by_lines text profile places words f ∙ ap (complete profile) is

pub draft_whole : (text : List ℕ) (profile : Profile) (places : Places) (words : ℕ) (d : DraftValue)
    (r : Result ImageValue AsmFault)
    → IsFound text profile places words → with_lines profile places words 0 empty (lines text) ≡ Ok d
    → image_or_incomplete profile d ≡ r
    → meaning_of text ≡ r
draft_whole text profile places words d r f is end =
    by_lines text profile places words f ∙ ap (complete profile) is ∙ end

pub finished_means : (text : List ℕ) (profile : Profile) (d : DraftValue) (r : Result ImageValue AsmFault)
    → ((s : Result ImageValue AsmFault) → image_or_incomplete profile d ≡ s → meaning_of text ≡ s)
    → MatchResult r (λ i. image_or_incomplete profile d ≡ Ok i) (λ e. image_or_incomplete profile d ≡ Err e)
    → IfOk r (Means text)
finished_means text profile d (Ok i) whole is = whole (Ok i) is
finished_means text profile d (Err e) whole is = tt

pub finished_fault : (text : List ℕ) (profile : Profile) (d : DraftValue) (r : Result ImageValue AsmFault)
    → ((s : Result ImageValue AsmFault) → image_or_incomplete profile d ≡ s → meaning_of text ≡ s)
    → MatchResult r (λ i. image_or_incomplete profile d ≡ Ok i) (λ e. image_or_incomplete profile d ≡ Err e)
    → IfErr r (λ e. e.kind ≢ fault.NoMemory → HasFault text e)
finished_fault text profile d (Ok i) whole is = tt
finished_fault text profile d (Err e) whole is = λ _. whole (Err e) is
