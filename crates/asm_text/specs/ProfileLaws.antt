-- The law of profiles.
use Rattle.std.specs.Prelude.{◌≡◌, ◌≢◌, ◌↔◌, ℕ, ◌<◌, List, codes, slice_get, Some, Ok}
use Rattle.insn_word.specs.declared.profiles.Profile.TheVariants.{Two}
use Rattle.image_file.specs.ImageValue.{ImageValue}
use Rattle.asm_line.specs.Text.{head, operands}
use Rattle.asm_line.specs.Directives.{profile_read}
use Rattle.asm_line.specs.Lines.{Line, lines}
use Rattle.asm_text.specs.Sources.{Means}

-- Line k (from 0) is the first one whose head is .profile, and its operand is 2.
pub record FirstSaysTwo (ls : List Line) : Type 0 where
  pub k : ℕ
  pub line : Line
  pub stands : slice_get ls k ≡ Some line
  pub head_is : head line.statement ≡ codes ".profile"
  pub says : profile_read (operands line.statement) ≡ Ok Two
  pub before : (j : ℕ) (other : Line) → j < k → slice_get ls j ≡ Some other
      → head other.statement ≢ codes ".profile"

-- The image that a text means has Profile 2 just where the first .profile line says so, wherever it stands.
abbrev pub FirstProfileDecides : Type 0
FirstProfileDecides = (text : List ℕ) (i : ImageValue) → Means text i → i.profile ≡ Two ↔ FirstSaysTwo (lines text)
