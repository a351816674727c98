-- Laws of meanings and faults, line by line.
use Rattle.std.specs.Prelude.{◌≡◌, ◌↔◌, ◌⊎◌, ℕ, suc, ◌+◌, ◌<◌, true, false, List, length, slice_get, Some, Ok, Err}
use Rattle.std.specs.Str.{IsAscii, IsNotAscii}
use Rattle.image_file.specs.ImageValue.{ImageValue}
use Rattle.text_parts.specs.Pieces.{pieces}
use Rattle.asm_line.specs.Lines.{Line, lines, place, count_words}
use Rattle.asm_line.specs.Profiles.{profile_of}
use Rattle.asm_line.specs.declared.fault.Fault.{Fault}
use Rattle.asm_line.specs.declared.fault.Fault.TheVariants as fault
use Rattle.asm_text.specs.declared.fault.AsmFault.{AsmFault}
use Rattle.asm_text.specs.Drafts.{DraftValue, empty, has_all, image_of_draft}
use Rattle.asm_text.specs.Sources.{with_line, Means, HasFault}

-- The first k of the lines add without a fault, one after another, and give this draft.
pub record AddUpTo (ls : List Line) (k : ℕ) (draft : DraftValue) : Type 0 where
  -- the draft before each line
  pub drafts : ℕ → DraftValue
  pub first : drafts 0 ≡ empty
  pub each : (j : ℕ) (l : Line) → j < k → slice_get ls j ≡ Some l
      → with_line (profile_of ls) (place ls) (count_words ls) j (drafts j) l ≡ Ok (drafts (suc j))
  pub last : drafts k ≡ draft

-- Line k (from 0) has a fault of this kind, and no line before it has a fault.
pub record IsFirstFault (ls : List Line) (k : ℕ) (kind : Fault) : Type 0 where
  pub draft : DraftValue
  pub before : AddUpTo ls k draft
  pub line : Line
  pub stands : slice_get ls k ≡ Some line
  pub refuses : with_line (profile_of ls) (place ls) (count_words ls) k draft line ≡ Err kind

-- Line k (from 0) has a byte that is not ASCII, and no line before it has one.
pub record IsFirstNotAscii (text : List ℕ) (k : ℕ) : Type 0 where
  pub line : List ℕ
  pub stands : slice_get (pieces 10 text) k ≡ Some line
  pub byte : IsNotAscii line
  pub before : (j : ℕ) (other : List ℕ) → j < k → slice_get (pieces 10 text) j ≡ Some other → IsAscii other

-- Faults are counted by lines from 1.

pub record IsNotAsciiFault (text : List ℕ) (e : AsmFault) : Type 0 where
  pub k : ℕ
  pub line : e.line ≡ k + 1
  pub kind : e.kind ≡ fault.NotAscii
  pub first : IsFirstNotAscii text k

pub record IsLineFault (text : List ℕ) (e : AsmFault) : Type 0 where
  pub ascii : IsAscii text
  pub k : ℕ
  pub line : e.line ≡ k + 1
  pub first : IsFirstFault (lines text) k e.kind

-- All lines add without a fault, but there is no entry, no program word or no cell: a fault of no line.
pub record IsIncomplete (text : List ℕ) (e : AsmFault) : Type 0 where
  pub ascii : IsAscii text
  pub draft : DraftValue
  pub all : AddUpTo (lines text) (length (lines text)) draft
  pub lacks : has_all draft ≡ false
  pub line : e.line ≡ 0
  pub kind : e.kind ≡ fault.Directive

-- All lines add without a fault, and there are an entry, a program word and a cell.
pub record IsMeant (text : List ℕ) (i : ImageValue) : Type 0 where
  pub ascii : IsAscii text
  pub draft : DraftValue
  pub all : AddUpTo (lines text) (length (lines text)) draft
  pub whole : has_all draft ≡ true
  pub image : image_of_draft (profile_of (lines text)) draft ≡ i

-- A text has the fault of the least line that has one.
abbrev pub FaultsAreFirst : Type 0
FaultsAreFirst = (text : List ℕ) (e : AsmFault)
    → HasFault text e ↔ (IsNotAsciiFault text e ⊎ (IsLineFault text e ⊎ IsIncomplete text e))

-- A text means the image that its lines add up to.
abbrev pub LinesAddUp : Type 0
LinesAddUp = (text : List ℕ) (i : ImageValue) → Means text i ↔ IsMeant text i
