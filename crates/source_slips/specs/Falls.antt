-- From where a stream runs on past the end of its program, or into the code where a processor begins.
use Rattle.std.specs.Prelude.{◌≡◌, ◌≤◌, ℕ, Option, Some, None, length, slice_get}
use Rattle.insn_word.specs.declared.insn.Insn.{Insn}
use Rattle.image_file.specs.ImageValue.{ImageValue}
use Rattle.reachable_places.specs.Ways.{IsReachable}
use Rattle.source_slips.specs.Places.{insn_at, GoesStraight}

-- an instruction at place k goes straight on to place j, past n words
abbrev pub LeadsPast : Option Insn → (k n j : ℕ) → Type 0
LeadsPast None k n j = ⊥
LeadsPast (Some i) k n j = GoesStraight i k j × (n ≤ j)

-- an instruction at place k goes straight on to the entry of processor p
abbrev pub LeadsInto : ImageValue → Option Insn → (k p : ℕ) → Type 0
LeadsInto image None k p = ⊥
LeadsInto image (Some i) k p = (j : ℕ) × (GoesStraight i k j × (slice_get image.entries p ≡ Some j))

-- A way leads to place k, and the instruction there goes straight on to place j, past the program's end.
pub record RunsPast (image : ImageValue) (k j : ℕ) : Type 0 where
  pub reached : IsReachable image k
  pub insn : Insn
  pub stands : insn_at image k ≡ Some insn
  pub goes : GoesStraight insn k j
  pub past : length image.program ≤ j

-- A way leads to place k, and the instruction there goes straight on to the entry of processor p.
pub record RunsInto (image : ImageValue) (k p : ℕ) : Type 0 where
  pub reached : IsReachable image k
  pub insn : Insn
  pub stands : insn_at image k ≡ Some insn
  pub entry : ℕ
  pub goes : GoesStraight insn k entry
  pub begins : slice_get image.entries p ≡ Some entry
