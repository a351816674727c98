-- The faults of the lines of a text, line by line.
use Rattle.std.proofs.Common.{◌≡◌, ℕ, ◌+◌, ◌<◌, List, [], ◌∷◌, ◌++◌, Ok, Err, Bool, ◌||◌, length, refl, sym, ap, ◌∙◌, append_assoc, arith}
use Rattle.text_parts.specs.Pieces.{pieces}
use Rattle.image_file.specs.ImageValue.{ImageValue}
use Rattle.expectation_files.specs.Addresses.{Names}
use Rattle.expectation_files.specs.Lines.{Meaning, said_after, has_after, is_points}
use Rattle.expectation_files.specs.Files.{FileSaid, RequirementsValue}
use Rattle.expectation_files.specs.Faults.{fault_on, faults_from, or_empty}
use Rattle.expectation_files.specs.declared.faults.FileFault.{FileFault}
use Rattle.expectation_files.specs.declared.faults.FileFault.TheVariants as file
use Rattle.expectation_files.specs.declared.faults.LineFault.{LineFault}

-- a line without a fault
pub right_line : (ns : Names) (i : ImageValue) (has : Bool) (found : List FileFault) (text line : List ℕ) (more : List (List ℕ))
    (n : ℕ) (m : Meaning) → pieces 10 text ≡ line ∷ more → said_after ns i has line ≡ Ok m
    → found ++ faults_from ns i (has || is_points m) (n + 1) more ≡ found ++ faults_from ns i has n (pieces 10 text)
right_line ns i has found text line more n m cut said =
    sym (ap (λ ls. found ++ faults_from ns i has n ls) cut
    ∙ ap (λ s. found ++ (fault_on n s ++ faults_from ns i (has_after has s) (n + 1) more)) said)

-- a line with one
pub wrong_line : (ns : Names) (i : ImageValue) (has : Bool) (found : List FileFault) (text line : List ℕ) (more : List (List ℕ))
    (n : ℕ) (f : LineFault) → pieces 10 text ≡ line ∷ more → said_after ns i has line ≡ Err f
    → (found ++ file.Line n f ∷ []) ++ faults_from ns i has (n + 1) more ≡ found ++ faults_from ns i has n (pieces 10 text)
wrong_line ns i has found text line more n f cut said =
    append_assoc found (file.Line n f ∷ []) (faults_from ns i has (n + 1) more)
    ∙ sym (ap (λ ls. found ++ faults_from ns i has n ls) cut
    ∙ ap (λ s. found ++ (fault_on n s ++ faults_from ns i (has_after has s) (n + 1) more)) said)

-- Faults stay as they are where there are some, or where the text says something.

pub kept_some : (said : FileSaid) (fs : List FileFault) → 0 < length fs → fs ≡ or_empty said fs
kept_some said [] some = absurd (omega (arith, some))
kept_some said (f ∷ fs) some = refl

pub kept_ok : (said : FileSaid) (fs : List FileFault) (v : RequirementsValue) → said ≡ Ok v → fs ≡ or_empty said fs
kept_ok said [] v e = sym (ap (λ s. or_empty s []) e)
kept_ok said (f ∷ fs) v e = refl

pub kept_line : (said : FileSaid) (fs : List FileFault) (k : ℕ) (f : LineFault) → said ≡ Err (file.Line k f)
    → fs ≡ or_empty said fs
kept_line said [] k f e = sym (ap (λ s. or_empty s []) e)
kept_line said (g ∷ fs) k f e = refl

-- that it says nothing is a fault where there is none
pub added_empty : (said : FileSaid) (fs : List FileFault) → said ≡ Err file.Empty → length fs ≡ 0
    → fs ++ file.Empty ∷ [] ≡ or_empty said fs
added_empty said [] e none = sym (ap (λ s. or_empty s []) e)
added_empty said (f ∷ fs) e none = absurd (omega (arith, none))
