-- What the lines of a text say, from what was found in the first of them.
use Rattle.std.proofs.Common.{◌≡◌, ℕ, ◌+◌, List, ◌∷◌, Ok, Err, Bool, true, false, ◌||◌, cond, refl, ap, sym, ◌∙◌}
use Rattle.text_parts.specs.Pieces.{pieces}
use Rattle.image_file.specs.ImageValue.{ImageValue}
use Rattle.expectation_files.specs.Addresses.{Names}
use Rattle.expectation_files.specs.Lines.{Meaning, said_after, has_after, is_points}
use Rattle.expectation_files.specs.Files.{RequirementsValue, lines_said, said_on, joined, in_front, on_line, is_nothing}
use Rattle.expectation_files.specs.Files.{unless_nothing, nothing_said, file_said}
use Rattle.expectation_files.specs.declared.faults.FileFault.{FileFault}
use Rattle.expectation_files.specs.declared.faults.FileFault.TheVariants as file
use Rattle.expectation_files.specs.declared.faults.LineFault.{LineFault}
use Rattle.expectation_files.specs.declared.faults.Unread.{Unread}
use Rattle.expectation_files.specs.declared.faults.Unread.TheVariants as unread
use Rattle.expectation_files.proofs.Joined.{joined_nothing, in_front-in_front}

-- a line with a fault
pub at_fault : (ns : Names) (i : ImageValue) (has : Bool) (v : RequirementsValue) (text bytes line : List ℕ) (more : List (List ℕ))
    (n : ℕ) (f : LineFault) → in_front v (lines_said ns i has n (pieces 10 bytes)) ≡ lines_said ns i false 1 (pieces 10 text)
    → pieces 10 bytes ≡ line ∷ more → said_after ns i has line ≡ Err f → file_said ns i text ≡ Err (file.Line n f)
unfolding file_said
at_fault ns i has v text bytes line more n f found cut fault =
    ap unless_nothing (sym found ∙ ap (λ ls. in_front v (lines_said ns i has n ls)) cut
    ∙ ap (λ s. in_front v (on_line n line s (lines_said ns i (has_after has s) (n + 1) more))) fault)

-- a line that was not read
pub at_unread : (ns : Names) (i : ImageValue) (has : Bool) (v : RequirementsValue) (text bytes line : List ℕ) (more : List (List ℕ))
    (n : ℕ) (u : Unread) (r : FileFault)
    → in_front v (lines_said ns i has n (pieces 10 bytes)) ≡ lines_said ns i false 1 (pieces 10 text)
    → pieces 10 bytes ≡ line ∷ more → ((f : LineFault) → u ≡ unread.Fault f → said_after ns i has line ≡ Err f)
    → ((f : LineFault) → u ≡ unread.Fault f → r ≡ file.Line n f) → (u ≡ unread.NoMemory → r ≡ file.NoMemory)
    → ¬ (r ≡ file.NoMemory) → file_said ns i text ≡ Err r
at_unread ns i has v text bytes line more n (unread.Fault f) r found cut said is none some =
    at_fault ns i has v text bytes line more n f found cut (said f refl) ∙ ap Err (sym (is f refl))
at_unread ns i has v text bytes line more n unread.NoMemory r found cut said is none some = absurd (some (none refl))

-- a line more
pub line_more : (ns : Names) (i : ImageValue) (has : Bool) (v w : RequirementsValue) (text bytes line : List ℕ)
    (more : List (List ℕ)) (n : ℕ) (m : Meaning)
    → in_front v (lines_said ns i has n (pieces 10 bytes)) ≡ lines_said ns i false 1 (pieces 10 text)
    → pieces 10 bytes ≡ line ∷ more → said_after ns i has line ≡ Ok m → w ≡ joined v (said_on n line m)
    → in_front w (lines_said ns i (has || is_points m) (n + 1) more) ≡ lines_said ns i false 1 (pieces 10 text)
line_more ns i has v w text bytes line more n m found cut said added =
    let later = lines_said ns i (has || is_points m) (n + 1) more in
    ap (λ x. in_front x later) added
    ∙ sym (in_front-in_front v (said_on n line m) later)
    ∙ sym (ap (λ s. in_front v (on_line n line s (lines_said ns i (has_after has s) (n + 1) more))) said)
    ∙ sym (ap (λ ls. in_front v (lines_said ns i has n ls)) cut)
    ∙ found

-- no line left
at_end : (ns : Names) (i : ImageValue) (has : Bool) (v : RequirementsValue) (text : List ℕ)
    → in_front v (Ok nothing_said) ≡ lines_said ns i false 1 (pieces 10 text)
    → file_said ns i text ≡ cond (is_nothing v) (Err file.Empty) (Ok v)
unfolding file_said
at_end ns i has v text found =
    ap unless_nothing (sym found) ∙ ap (λ x. unless_nothing (Ok x)) (joined_nothing v)

pub nothing_found : (ns : Names) (i : ImageValue) (has : Bool) (v : RequirementsValue) (text : List ℕ)
    → in_front v (Ok nothing_said) ≡ lines_said ns i false 1 (pieces 10 text) → is_nothing v ≡ true
    → file_said ns i text ≡ Err file.Empty
nothing_found ns i has v text found none =
    at_end ns i has v text found ∙ ap (λ b. cond b (Err file.Empty) (Ok v)) none

pub all_found : (ns : Names) (i : ImageValue) (has : Bool) (v : RequirementsValue) (text : List ℕ)
    → in_front v (Ok nothing_said) ≡ lines_said ns i false 1 (pieces 10 text) → is_nothing v ≡ false
    → file_said ns i text ≡ Ok v
all_found ns i has v text found some =
    at_end ns i has v text found ∙ ap (λ b. cond b (Err file.Empty) (Ok v)) some
