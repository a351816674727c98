-- The first line whose head is .profile decides the profile.
use Rattle.std.proofs.Common.{◌≡◌, ◌≢◌, ℕ, zero, suc, ◌<◌, true, false, List, [], ◌∷◌, slice_get, Option, Some}
use Rattle.std.proofs.Common.{None, Result, Ok, Err, refl, sym, ◌∙◌, ap, arith, ⊎_elim, unwrap_or, true≢false, codes}
use Rattle.std.specs.Str.{bytes_eq}
use Rattle.std.proofs.lemmas.Bool.{cases_Bool}
use Rattle.std.proofs.lemmas.Slice.Eq.{bytes_eq-Decides}
use Rattle.insn_word.specs.declared.profiles.Profile.{Profile}
use Rattle.insn_word.specs.declared.profiles.Profile.TheVariants.{One, Two}
use Rattle.image_file.specs.ImageValue.{ImageValue}
use Rattle.asm_line.specs.Text.{head, operands}
use Rattle.asm_line.specs.Directives.{profile_read}
use Rattle.asm_line.specs.Lines.{Line, lines}
use Rattle.asm_line.specs.Profiles.{profile_or_one, profile_named, profile_of}
use Rattle.asm_line.specs.declared.fault.Fault.{Fault}
use Rattle.asm_text.specs.Drafts.{image_of_draft}
use Rattle.asm_text.specs.Sources.{Means}
use Rattle.asm_text.specs.ProfileLaws.{FirstSaysTwo, FirstProfileDecides}
use Rattle.asm_text.proofs.LineFaults.{lines_add_up}

-- What a line says.

told_by : (l : Line) → bytes_eq (head l.statement) (codes ".profile") ≡ true
    → profile_named l ≡ Some (profile_or_one (profile_read (operands l.statement)))
unfolding profile_named
told_by l e = rw e refl

told_none : (l : Line) → bytes_eq (head l.statement) (codes ".profile") ≡ false → profile_named l ≡ None
unfolding profile_named
told_none l e = rw e refl

not_two : One ≡ Two → ⊥
not_two e = absurd cc

two_read : (r : Result Profile Fault) → profile_or_one r ≡ Two → r ≡ Ok Two
two_read (Ok p) e = ap (λ (q : Profile). Ok q) e
two_read (Err f) e = absurd (not_two e)

is_head : (l : Line) → head l.statement ≡ codes ".profile" → bytes_eq (head l.statement) (codes ".profile") ≡ true
is_head l e = (bytes_eq-Decides (head l.statement) (codes ".profile")).1 e

no_head : (l : Line) → head l.statement ≢ codes ".profile"
    → bytes_eq (head l.statement) (codes ".profile") ≡ false
no_head l other = ⊎_elim
    (λ yes. absurd (other ((bytes_eq-Decides (head l.statement) (codes ".profile")).0 yes)))
    (λ no. no)
    (cases_Bool (bytes_eq (head l.statement) (codes ".profile")))

-- Of lines that have Profile 2 the first such line says so.

here : (l : Line) (ls : List Line) → bytes_eq (head l.statement) (codes ".profile") ≡ true
    → profile_of (l ∷ ls) ≡ Two → FirstSaysTwo (l ∷ ls)
here l ls e two = record {
  k = 0;
  line = l;
  stands = refl;
  head_is = (bytes_eq-Decides (head l.statement) (codes ".profile")).0 e;
  says = two_read (profile_read (operands l.statement))
      (sym (ap (λ o. unwrap_or o (profile_of ls)) (told_by l e)) ∙ two);
  before = λ j other less is. absurd (omega arith);
}

before_more : (l : Line) (ls : List Line) (k : ℕ) → bytes_eq (head l.statement) (codes ".profile") ≡ false
    → ((j : ℕ) (other : Line) → j < k → slice_get ls j ≡ Some other → head other.statement ≢ codes ".profile")
    → (j : ℕ) (other : Line) → j < suc k → slice_get (l ∷ ls) j ≡ Some other
    → head other.statement ≢ codes ".profile"
before_more l ls k e before zero other less is =
    let at : l ≡ other = cc in
    λ same. true≢false (sym (is_head l (ap (λ (m : Line). head m.statement) at ∙ same)) ∙ e)
before_more l ls k e before (suc j) other less is = before j other (omega arith) is

further : (l : Line) (ls : List Line) → bytes_eq (head l.statement) (codes ".profile") ≡ false → FirstSaysTwo ls
    → FirstSaysTwo (l ∷ ls)
further l ls e f = record {
  k = suc f.k;
  line = f.line;
  stands = f.stands;
  head_is = f.head_is;
  says = f.says;
  before = before_more l ls f.k e f.before;
}

says_two : (ls : List Line) → profile_of ls ≡ Two → FirstSaysTwo ls
says_two [] two = absurd (not_two two)
says_two (l ∷ ls) two = ⊎_elim
    (λ yes. here l ls yes two)
    (λ no. further l ls no
    (says_two ls (sym (ap (λ o. unwrap_or o (profile_of ls)) (told_none l no)) ∙ two)))
    (cases_Bool (bytes_eq (head l.statement) (codes ".profile")))

has_two : (ls : List Line) (k : ℕ) (line : Line) → slice_get ls k ≡ Some line
    → head line.statement ≡ codes ".profile" → profile_read (operands line.statement) ≡ Ok Two
    → ((j : ℕ) (other : Line) → j < k → slice_get ls j ≡ Some other → head other.statement ≢ codes ".profile")
    → profile_of ls ≡ Two
has_two [] k line stands head_is says before =
    let no : ◌≡◌ {A = Option Line} None (Some line) = stands in absurd cc
has_two (l ∷ ls) zero line stands head_is says before =
    let at : ◌≡◌ {A = Option Line} (Some l) (Some line) = stands in
    let same : line ≡ l = cc in
    let e = is_head l (sym (ap (λ (m : Line). head m.statement) same) ∙ head_is) in
    let two = sym (ap (λ (m : Line). profile_read (operands m.statement)) same) ∙ says in
    ap (λ o. unwrap_or o (profile_of ls)) (told_by l e) ∙ ap profile_or_one two
has_two (l ∷ ls) (suc k) line stands head_is says before =
    let e = no_head l (before 0 l (omega arith) refl) in
    ap (λ o. unwrap_or o (profile_of ls)) (told_none l e)
    ∙ has_two ls k line stands head_is says (λ j other less is. before (suc j) other (omega arith) is)

image_profile : (text : List ℕ) (i : ImageValue) → Means text i → profile_of (lines text) ≡ i.profile
unfolding image_of_draft
image_profile text i means =
    let m = (lines_add_up text i).0 means in ap (λ (j : ImageValue). j.profile) m.image

pub first_decides : FirstProfileDecides
first_decides text i means = (
  λ two. says_two (lines text) (image_profile text i means ∙ two),
  λ f. sym (image_profile text i means) ∙ has_two (lines text) f.k f.line f.stands f.head_is f.says f.before,
)
