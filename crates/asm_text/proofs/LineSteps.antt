-- Lines that add, one after another.
use Rattle.std.proofs.Common.{◌≡◌, ℕ, zero, suc, ◌+◌, ◌<◌, List, [], ◌∷◌, length, slice_get, Option, Some, None}
use Rattle.std.proofs.Common.{Result, Ok, Err, refl, sym, ◌∙◌, ap, subst, arith}
use Rattle.insn_word.specs.declared.profiles.Profile.{Profile}
use Rattle.asm_line.specs.Operands.{Places}
use Rattle.asm_line.specs.Lines.{Line}
use Rattle.asm_line.specs.declared.fault.Fault.{Fault}
use Rattle.asm_text.specs.declared.fault.AsmFault.{AsmFault}
use Rattle.asm_text.specs.Drafts.{DraftValue}
use Rattle.asm_text.specs.Sources.{with_line, with_lines, after_line}

-- the first k of these lines, of which the first is line n, add to a draft and give another
pub record Adds (profile : Profile) (places : Places) (words n : ℕ) (d : DraftValue) (ls : List Line)
    (k : ℕ) (e : DraftValue) : Type 0 where
  pub drafts : ℕ → DraftValue
  pub first : drafts 0 ≡ d
  pub each : (j : ℕ) (l : Line) → j < k → slice_get ls j ≡ Some l
      → with_line profile places words (n + j) (drafts j) l ≡ Ok (drafts (suc j))
  pub last : drafts k ≡ e

pub at_line : (profile : Profile) (places : Places) (words m n : ℕ) (d : DraftValue) (l : Line)
    (r : Result DraftValue Fault) → m ≡ n
    → with_line profile places words m d l ≡ r → with_line profile places words n d l ≡ r
at_line profile places words m n d l r e is = subst (λ k. with_line profile places words k d l ≡ r) e is

adds_none : (profile : Profile) (places : Places) (words n : ℕ) (d : DraftValue) (ls : List Line)
    → Adds profile places words n d ls 0 d
adds_none profile places words n d ls = record {
  drafts = λ _. d;
  first = refl;
  each = λ j l less is. absurd (omega arith);
  last = refl;
}

-- a draft before others
abbrev behind : DraftValue → (ℕ → DraftValue) → ℕ → DraftValue
behind d drafts zero = d
behind d drafts (suc j) = drafts j

first_adds : (profile : Profile) (places : Places) (words n : ℕ) (d e : DraftValue) (l m : Line)
    → with_line profile places words n d l ≡ Ok e
    → ◌≡◌ {A = Option Line} (Some l) (Some m) → with_line profile places words (n + 0) d m ≡ Ok e
first_adds profile places words n d e l m added is =
    let same : l ≡ m = cc in
    at_line profile places words n (n + 0) d m (Ok e) (omega arith)
    (subst (λ x. with_line profile places words n d x ≡ Ok e) same added)

each_adds : (profile : Profile) (places : Places) (words n : ℕ) (d e f : DraftValue) (l : Line) (ls : List Line) (k : ℕ)
    → with_line profile places words n d l ≡ Ok e
    → (a : Adds profile places words (n + 1) e ls k f) (j : ℕ) (m : Line) → j < suc k → slice_get (l ∷ ls) j ≡ Some m
    → with_line profile places words (n + j) (behind d a.drafts j) m ≡ Ok (behind d a.drafts (suc j))
each_adds profile places words n d e f l ls k added a zero m less is =
    first_adds profile places words n d (a.drafts 0) l m (added ∙ ap (λ (x : DraftValue). Ok x) (sym a.first)) is
each_adds profile places words n d e f l ls k added a (suc j) m less is =
    at_line profile places words (n + 1 + j) (n + suc j) (a.drafts j) m (Ok (a.drafts (suc j))) (omega arith)
    (a.each j m (omega arith) is)

adds_more : (profile : Profile) (places : Places) (words n : ℕ) (d e f : DraftValue) (l : Line) (ls : List Line) (k : ℕ)
    → with_line profile places words n d l ≡ Ok e → Adds profile places words (n + 1) e ls k f
    → Adds profile places words n d (l ∷ ls) (suc k) f
adds_more profile places words n d e f l ls k added a = record {
  drafts = behind d a.drafts;
  first = refl;
  each = each_adds profile places words n d e f l ls k added a;
  last = a.last;
}

head_added : (profile : Profile) (places : Places) (words n : ℕ) (d e : DraftValue) (l : Line) (ls : List Line) (k : ℕ)
    → (a : Adds profile places words n d (l ∷ ls) (suc k) e) → with_line profile places words n d l ≡ Ok (a.drafts 1)
head_added profile places words n d e l ls k a =
    subst (λ x. with_line profile places words n x l ≡ Ok (a.drafts 1)) a.first
    (at_line profile places words (n + 0) n (a.drafts 0) l (Ok (a.drafts 1)) (omega arith)
    (a.each 0 l (omega arith) refl))

tail_adds : (profile : Profile) (places : Places) (words n : ℕ) (d e : DraftValue) (l : Line) (ls : List Line) (k : ℕ)
    → (a : Adds profile places words n d (l ∷ ls) (suc k) e) → Adds profile places words (n + 1) (a.drafts 1) ls k e
tail_adds profile places words n d e l ls k a = record {
  drafts = λ j. a.drafts (suc j);
  first = refl;
  each = λ j m less is.
      at_line profile places words (n + suc j) (n + 1 + j) (a.drafts (suc j)) m (Ok (a.drafts (suc (suc j))))
      (omega arith)
      (a.each (suc j) m (omega arith) is);
  last = a.last;
}

went : (r : Result DraftValue Fault) (n : ℕ) (f : DraftValue → Result DraftValue AsmFault) (e : DraftValue)
    → after_line r n f ≡ Ok e → (d : DraftValue) × (r ≡ Ok d) × (f d ≡ Ok e)
went (Ok d) n f e is = (d, refl, is)
went (Err x) n f e is = absurd cc

pub lines_add : (profile : Profile) (places : Places) (words n : ℕ) (d e : DraftValue) (ls : List Line)
    → with_lines profile places words n d ls ≡ Ok e → Adds profile places words n d ls (length ls) e
lines_add profile places words n d e [] is =
    let at : d ≡ e = cc in subst (Adds profile places words n d [] 0) at (adds_none profile places words n d [])
lines_add profile places words n d e (l ∷ ls) is =
    let g = went (with_line profile places words n d l) n (λ f. with_lines profile places words (n + 1) f ls) e is in
    adds_more profile places words n d g.0 e l ls (length ls) g.1 (lines_add profile places words (n + 1) g.0 e ls g.2)

pub added_lines : (profile : Profile) (places : Places) (words n : ℕ) (d e : DraftValue) (ls : List Line)
    → Adds profile places words n d ls (length ls) e → with_lines profile places words n d ls ≡ Ok e
added_lines profile places words n d e [] a = ap (λ (x : DraftValue). Ok x) (sym a.first ∙ a.last)
added_lines profile places words n d e (l ∷ ls) a =
    ap (λ r. after_line r n (λ f. with_lines profile places words (n + 1) f ls))
    (head_added profile places words n d e l ls (length ls) a)
    ∙ added_lines profile places words (n + 1) (a.drafts 1) e ls
    (tail_adds profile places words n d e l ls (length ls) a)

-- line k of these has a fault, and none before it
pub record Fails (profile : Profile) (places : Places) (words n : ℕ) (d : DraftValue) (ls : List Line)
    (k : ℕ) (kind : Fault) : Type 0 where
  pub draft : DraftValue
  pub before : Adds profile places words n d ls k draft
  pub line : Line
  pub stands : slice_get ls k ≡ Some line
  pub refuses : with_line profile places words (n + k) draft line ≡ Err kind

abbrev pub IsFailure : Profile → Places → ℕ → ℕ → DraftValue → List Line → AsmFault → Type 0
IsFailure profile places words n d ls e = (k : ℕ) × (e.line ≡ n + k + 1) × Fails profile places words n d ls k e.kind

fails_first : (profile : Profile) (places : Places) (words n : ℕ) (d : DraftValue) (l : Line) (ls : List Line)
    (kind : Fault)
    → with_line profile places words n d l ≡ Err kind → Fails profile places words n d (l ∷ ls) 0 kind
fails_first profile places words n d l ls kind is = record {
  draft = d;
  before = adds_none profile places words n d (l ∷ ls);
  line = l;
  stands = refl;
  refuses = at_line profile places words n (n + 0) d l (Err kind) (omega arith) is;
}

fails_more : (profile : Profile) (places : Places) (words n : ℕ) (d e : DraftValue) (l : Line) (ls : List Line)
    (k : ℕ) (kind : Fault)
    → with_line profile places words n d l ≡ Ok e → Fails profile places words (n + 1) e ls k kind
    → Fails profile places words n d (l ∷ ls) (suc k) kind
fails_more profile places words n d e l ls k kind added f = record {
  draft = f.draft;
  before = adds_more profile places words n d e f.draft l ls k added f.before;
  line = f.line;
  stands = f.stands;
  refuses =
      at_line profile places words (n + 1 + k) (n + suc k) f.draft f.line (Err kind) (omega arith) f.refuses;
}

fails_by : (profile : Profile) (places : Places) (words n : ℕ) (d : DraftValue) (l : Line) (ls : List Line)
    (e : AsmFault)
    (r : Result DraftValue Fault)
    → with_line profile places words n d l ≡ r
    → after_line r n (λ f. with_lines profile places words (n + 1) f ls) ≡ Err e
    → ((x : DraftValue) → with_lines profile places words (n + 1) x ls ≡ Err e
    → IsFailure profile places words (n + 1) x ls e)
    → IsFailure profile places words n d (l ∷ ls) e
fails_by profile places words n d l ls e (Err kind) first is rest =
    let at : ◌≡◌ {A = AsmFault} (record { line = n + 1; kind = kind }) e = cc in
    let line : n + 1 ≡ n + 0 + 1 = omega arith in
    subst (IsFailure profile places words n d (l ∷ ls)) at
    (0, line, fails_first profile places words n d l ls kind first)
fails_by profile places words n d l ls e (Ok x) first is rest =
    let g = rest x is in
    let line : e.line ≡ n + suc g.0 + 1 = omega (arith, g.1) in
    (suc g.0, line, fails_more profile places words n d x l ls g.0 e.kind first g.2)

pub lines_fail : (profile : Profile) (places : Places) (words n : ℕ) (d : DraftValue) (ls : List Line) (e : AsmFault)
    → with_lines profile places words n d ls ≡ Err e → IsFailure profile places words n d ls e
lines_fail profile places words n d [] e is = absurd cc
lines_fail profile places words n d (l ∷ ls) e is =
    fails_by profile places words n d l ls e (with_line profile places words n d l) refl is
    (λ x. lines_fail profile places words (n + 1) x ls e)

pub fault_is : (e : AsmFault) (line : ℕ) (kind : Fault) → e.line ≡ line → e.kind ≡ kind
    → ◌≡◌ {A = AsmFault} (record { line = line; kind = kind }) e
fault_is e line kind lines kinds = sym (λ i. record { line = lines i; kind = kinds i })

refused_first : (profile : Profile) (places : Places) (words n : ℕ) (d : DraftValue) (l : Line) (ls : List Line)
    (kind : Fault)
    → Fails profile places words n d (l ∷ ls) 0 kind → with_line profile places words n d l ≡ Err kind
refused_first profile places words n d l ls kind f =
    let here : ◌≡◌ {A = Option Line} (Some l) (Some f.line) = f.stands in
    let line : f.line ≡ l = cc in
    let draft : f.draft ≡ d = sym f.before.last ∙ f.before.first in
    subst (λ x. with_line profile places words n d x ≡ Err kind) line
    (subst (λ x. with_line profile places words n x f.line ≡ Err kind) draft
    (at_line profile places words (n + 0) n f.draft f.line (Err kind) (omega arith) f.refuses))

pub failed_lines : (profile : Profile) (places : Places) (words n : ℕ) (d : DraftValue) (ls : List Line)
    (e : AsmFault) (k : ℕ)
    → e.line ≡ n + k + 1 → Fails profile places words n d ls k e.kind → with_lines profile places words n d ls ≡ Err e
failed_lines profile places words n d [] e k line f =
    let no : ◌≡◌ {A = Option Line} None (Some f.line) = f.stands in absurd cc
failed_lines profile places words n d (l ∷ ls) e zero line f =
    let at : e.line ≡ n + 1 = omega arith in
    ap (λ r. after_line r n (λ x. with_lines profile places words (n + 1) x ls))
    (refused_first profile places words n d l ls e.kind f)
    ∙ ap (λ (x : AsmFault). Err x) (fault_is e (n + 1) e.kind at refl)
failed_lines profile places words n d (l ∷ ls) e (suc k) line f =
    let at : e.line ≡ n + 1 + k + 1 = omega arith in
    ap (λ r. after_line r n (λ x. with_lines profile places words (n + 1) x ls))
    (head_added profile places words n d f.draft l ls k f.before)
    ∙ failed_lines profile places words (n + 1) (f.before.drafts 1) ls e k at (record {
      draft = f.draft;
      before = tail_adds profile places words n d f.draft l ls k f.before;
      line = f.line;
      stands = f.stands;
      refuses =
          at_line profile places words (n + suc k) (n + 1 + k) f.draft f.line (Err e.kind) (omega arith) f.refuses;
    })
