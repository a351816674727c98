-- A text has the fault of the least line that has one.
use Rattle.std.proofs.Common.{◌≡◌, ℕ, suc, ◌+◌, ◌⊎◌, Bool, true, false, cond, List, length, Option, Some, None}
use Rattle.std.proofs.Common.{Result, Ok, Err}
use Rattle.std.proofs.Common.{refl, sym, ◌∙◌, ap, arith, inl, inr, ⊎_elim}
use Rattle.std.specs.Str.{IsAscii}
use Rattle.image_file.specs.ImageValue.{ImageValue}
use Rattle.asm_line.specs.Lines.{Line, lines, place, count_words}
use Rattle.asm_line.specs.Profiles.{profile_of}
use Rattle.asm_line.specs.declared.fault.Fault.{Fault}
use Rattle.asm_line.specs.declared.fault.Fault.TheVariants as fault
use Rattle.asm_text.specs.declared.fault.AsmFault.{AsmFault}
use Rattle.asm_text.specs.Drafts.{DraftValue, empty, has_all, image_of_draft}
use Rattle.asm_text.specs.Sources.{with_lines, not_ascii, complete, meaning_of, Means, HasFault}
use Rattle.asm_text.specs.FaultLaws.{AddUpTo, IsFirstFault, IsNotAsciiFault, IsLineFault, IsIncomplete, IsMeant}
use Rattle.asm_text.specs.FaultLaws.{FaultsAreFirst, LinesAddUp}
use Rattle.asm_text.proofs.Assembly.{with_byte, by_lines}
use Rattle.asm_text.proofs.ForeignBytes.{foreign_line, line_foreign, all_ascii, ascii_all}
use Rattle.asm_text.proofs.LineSteps.{Adds, Fails, at_line, lines_add, added_lines, lines_fail, failed_lines}
use Rattle.asm_text.proofs.LineSteps.{fault_is}

-- Lines counted from the first.

abbrev AddsAll : List Line → ℕ → DraftValue → Type 0
AddsAll ls k d = Adds (profile_of ls) (place ls) (count_words ls) 0 empty ls k d

up_to : (ls : List Line) (k : ℕ) (d : DraftValue) → AddsAll ls k d → AddUpTo ls k d
up_to ls k d a = record {
  drafts = a.drafts;
  first = a.first;
  each = λ j l less is.
      at_line (profile_of ls) (place ls) (count_words ls) (0 + j) j (a.drafts j) l (Ok (a.drafts (suc j))) (omega arith)
      (a.each j l less is);
  last = a.last;
}

adds_all : (ls : List Line) (k : ℕ) (d : DraftValue) → AddUpTo ls k d → AddsAll ls k d
adds_all ls k d a = record {
  drafts = a.drafts;
  first = a.first;
  each = λ j l less is.
      at_line (profile_of ls) (place ls) (count_words ls) j (0 + j) (a.drafts j) l (Ok (a.drafts (suc j))) (omega arith)
      (a.each j l less is);
  last = a.last;
}

abbrev FailsAll : List Line → ℕ → Fault → Type 0
FailsAll ls k kind = Fails (profile_of ls) (place ls) (count_words ls) 0 empty ls k kind

first_fault : (ls : List Line) (k : ℕ) (kind : Fault) → FailsAll ls k kind → IsFirstFault ls k kind
first_fault ls k kind f = record {
  draft = f.draft;
  before = up_to ls k f.draft f.before;
  line = f.line;
  stands = f.stands;
  refuses =
      at_line (profile_of ls) (place ls) (count_words ls) (0 + k) k f.draft f.line (Err kind) (omega arith) f.refuses;
}

fails_all : (ls : List Line) (k : ℕ) (kind : Fault) → IsFirstFault ls k kind → FailsAll ls k kind
fails_all ls k kind f = record {
  draft = f.draft;
  before = adds_all ls k f.draft f.before;
  line = f.line;
  stands = f.stands;
  refuses =
      at_line (profile_of ls) (place ls) (count_words ls) k (0 + k) f.draft f.line (Err kind) (omega arith) f.refuses;
}

-- What the lines of a text give.

abbrev all_lines : List ℕ → Result DraftValue AsmFault
all_lines text =
    with_lines (profile_of (lines text)) (place (lines text)) (count_words (lines text)) 0 empty (lines text)

without_foreign : (text : List ℕ) → not_ascii text ≡ None
    → meaning_of text ≡ complete (profile_of (lines text)) (all_lines text)
without_foreign text none =
    by_lines text (profile_of (lines text)) (place (lines text)) (count_words (lines text))
    (record { ascii = none; profile_is = refl; places_are = refl; words_are = refl })

ascii_text : (text : List ℕ) → IsAscii text → meaning_of text ≡ complete (profile_of (lines text)) (all_lines text)
ascii_text text ascii = without_foreign text (ascii_all text ascii)

abbrev Cases : List ℕ → AsmFault → Type 0
Cases text e = IsNotAsciiFault text e ⊎ (IsLineFault text e ⊎ IsIncomplete text e)

lacking : (text : List ℕ) (e : AsmFault) (d : DraftValue) (b : Bool) → IsAscii text → all_lines text ≡ Ok d
    → has_all d ≡ b
    → ◌≡◌ {A = Result ImageValue AsmFault}
    (cond b (Ok (image_of_draft (profile_of (lines text)) d)) (Err (record { line = 0; kind = fault.Directive })))
    (Err e)
    → IsIncomplete text e
lacking text e d true ascii is whole told = absurd cc
lacking text e d false ascii is whole told =
    let at : ◌≡◌ {A = AsmFault} (record { line = 0; kind = fault.Directive }) e = cc in
    record {
      ascii = ascii;
      draft = d;
      all =
          up_to (lines text) (length (lines text)) d
          (lines_add (profile_of (lines text)) (place (lines text)) (count_words (lines text)) 0 empty d
          (lines text) is);
      lacks = whole;
      line = ap (λ (f : AsmFault). f.line) (sym at);
      kind = ap (λ (f : AsmFault). f.kind) (sym at);
    }

line_fault : (text : List ℕ) (e : AsmFault) → IsAscii text → all_lines text ≡ Err e → IsLineFault text e
line_fault text e ascii is =
    let f = lines_fail (profile_of (lines text)) (place (lines text)) (count_words (lines text)) 0 empty
    (lines text) e is in
    record {
      ascii = ascii;
      k = f.0;
      line = omega (arith, f.1);
      first = first_fault (lines text) f.0 e.kind f.2;
    }

fault_by : (text : List ℕ) (e : AsmFault) (r : Result DraftValue AsmFault) → IsAscii text → all_lines text ≡ r
    → complete (profile_of (lines text)) r ≡ Err e → IsLineFault text e ⊎ IsIncomplete text e
fault_by text e (Ok d) ascii is told = inr (lacking text e d (has_all d) ascii is refl told)
fault_by text e (Err f) ascii is told =
    let at : f ≡ e = cc in
    inl (line_fault text e ascii (is ∙ ap (λ (g : AsmFault). Err g) at))

foreign_fault : (text : List ℕ) (e : AsmFault) (n : ℕ) → not_ascii text ≡ Some n
    → ◌≡◌ {A = Result ImageValue AsmFault} (Err (record { line = n; kind = fault.NotAscii })) (Err e)
    → IsNotAsciiFault text e
foreign_fault text e n is told =
    let at : ◌≡◌ {A = AsmFault} (record { line = n; kind = fault.NotAscii }) e = cc in
    let f = foreign_line text n is in
    record {
      k = f.0;
      line = ap (λ (g : AsmFault). g.line) (sym at) ∙ f.1;
      kind = ap (λ (g : AsmFault). g.kind) (sym at);
      first = f.2;
    }

fault_in : (text : List ℕ) (e : AsmFault) (o : Option ℕ) → not_ascii text ≡ o → HasFault text e → Cases text e
fault_in text e (Some n) is has = inl (foreign_fault text e n is (sym (with_byte text n is) ∙ has))
fault_in text e None is has =
    inr (fault_by text e (all_lines text) (all_ascii text is) refl (sym (without_foreign text is) ∙ has))

from_foreign : (text : List ℕ) (e : AsmFault) → IsNotAsciiFault text e → HasFault text e
from_foreign text e f =
    with_byte text (f.k + 1) (line_foreign text f.k f.first)
    ∙ ap (λ (g : AsmFault). Err g) (fault_is e (f.k + 1) fault.NotAscii f.line f.kind)

from_line : (text : List ℕ) (e : AsmFault) → IsLineFault text e → HasFault text e
from_line text e f =
    let line : e.line ≡ 0 + f.k + 1 = omega (arith, f.line) in
    ascii_text text f.ascii
    ∙ ap (complete (profile_of (lines text)))
    (failed_lines (profile_of (lines text)) (place (lines text)) (count_words (lines text)) 0 empty
    (lines text) e f.k line
    (fails_all (lines text) f.k e.kind f.first))

all_added : (text : List ℕ) (d : DraftValue) → AddUpTo (lines text) (length (lines text)) d → all_lines text ≡ Ok d
all_added text d a =
    added_lines (profile_of (lines text)) (place (lines text)) (count_words (lines text)) 0 empty d (lines text)
    (adds_all (lines text) (length (lines text)) d a)

from_incomplete : (text : List ℕ) (e : AsmFault) → IsIncomplete text e → HasFault text e
from_incomplete text e f =
    ascii_text text f.ascii ∙ ap (complete (profile_of (lines text))) (all_added text f.draft f.all)
    ∙ ap
    (λ b. cond b (Ok (image_of_draft (profile_of (lines text)) f.draft))
    (Err (record { line = 0; kind = fault.Directive }))) f.lacks
    ∙ ap (λ (g : AsmFault). Err g) (fault_is e 0 fault.Directive f.line f.kind)

from_cases : (text : List ℕ) (e : AsmFault) → Cases text e → HasFault text e
from_cases text e s = ⊎_elim (from_foreign text e) (⊎_elim (from_line text e) (from_incomplete text e)) s

pub faults_first : FaultsAreFirst
faults_first text e = (fault_in text e (not_ascii text) refl, from_cases text e)

-- The same for the image.

whole_by : (text : List ℕ) (i : ImageValue) (d : DraftValue) (b : Bool) → IsAscii text → all_lines text ≡ Ok d
    → has_all d ≡ b
    → ◌≡◌ {A = Result ImageValue AsmFault}
    (cond b (Ok (image_of_draft (profile_of (lines text)) d)) (Err (record { line = 0; kind = fault.Directive })))
    (Ok i)
    → IsMeant text i
whole_by text i d false ascii is whole means = absurd cc
whole_by text i d true ascii is whole means =
    let at : image_of_draft (profile_of (lines text)) d ≡ i = cc in
    record {
      ascii = ascii;
      draft = d;
      all =
          up_to (lines text) (length (lines text)) d
          (lines_add (profile_of (lines text)) (place (lines text)) (count_words (lines text)) 0 empty d
          (lines text) is);
      whole = whole;
      image = at;
    }

meant_by : (text : List ℕ) (i : ImageValue) (r : Result DraftValue AsmFault) → IsAscii text → all_lines text ≡ r
    → complete (profile_of (lines text)) r ≡ Ok i → IsMeant text i
meant_by text i (Ok d) ascii is means = whole_by text i d (has_all d) ascii is refl means
meant_by text i (Err f) ascii is means = absurd cc

no_image : (i : ImageValue) (e : AsmFault) → ◌≡◌ {A = Result ImageValue AsmFault} (Err e) (Ok i) → ⊥
no_image i e is = cc

meant_in : (text : List ℕ) (i : ImageValue) (o : Option ℕ) → not_ascii text ≡ o → Means text i → IsMeant text i
meant_in text i (Some n) is means =
    absurd (no_image i (record { line = n; kind = fault.NotAscii }) (sym (with_byte text n is) ∙ means))
meant_in text i None is means =
    meant_by text i (all_lines text) (all_ascii text is) refl (sym (without_foreign text is) ∙ means)

from_meant : (text : List ℕ) (i : ImageValue) → IsMeant text i → Means text i
from_meant text i m =
    ascii_text text m.ascii ∙ ap (complete (profile_of (lines text))) (all_added text m.draft m.all)
    ∙ ap
    (λ b. cond b (Ok (image_of_draft (profile_of (lines text)) m.draft))
    (Err (record { line = 0; kind = fault.Directive }))) m.whole
    ∙ ap (λ (j : ImageValue). Ok j) m.image

pub lines_add_up : LinesAddUp
lines_add_up text i = (meant_in text i (not_ascii text) refl, from_meant text i)
