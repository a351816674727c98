-- Streams whose instruction loads what nobody reads.
use Rattle.std.specs.Prelude.{◌≡◌, ℕ, Bool, false, List, IsTrue, slice_get, slice_index_or}
use Rattle.insn_word.specs.Words.{memory_destination}
use Rattle.insn_word.specs.declared.profiles.Profile.{Profile}
use Rattle.insn_word.specs.declared.insn.Insn.{Insn}
use Rattle.insn_word.specs.declared.insn.Insn.TheVariants.{Wide, Normal}
use Rattle.image_file.specs.ImageValue.{ImageValue}
use Rattle.stream_core.specs.Streams.{StreamValue}
use Rattle.stream_core.specs.StreamRow.{fetch_of, fetch_word}
use Rattle.stream_core.specs.declared.steps.Fetch.TheVariants as fetch
use Rattle.program_flow.specs.Flow.{GoesTo}

-- the register that an instruction loads; r0 where it loads none
abbrev pub loaded_register : Insn → ℕ
loaded_register (Wide look op reg imm) = 0
loaded_register (Normal look m a c) = memory_destination m.op m.rd

-- Nobody reads what the instruction at place k loads: the register is not named, and not live where it goes on.
pub record IsUnread (named : ℕ → Type 0) (live : ℕ → ℕ → Type 0) (i : Insn) (k : ℕ) : Type 0 where
  pub unnamed : ¬ (named (loaded_register i))
  pub dead : (j : ℕ) → GoesTo i k j → ¬ (live j (loaded_register i))

-- Nobody reads what the instruction loads that the stream finds.
abbrev pub IsUnreadBy : ImageValue → (ℕ → Type 0) → (ℕ → ℕ → Type 0) → StreamValue → Type 0
IsUnreadBy image named live s =
    (i : Insn) → fetch_of image.profile image.program s ≡ fetch.Instruction i → IsUnread named live i s.ssw.pc

-- Of each place that is marked nobody reads what the instruction there loads.
abbrev pub AreUnreadPlaces : (ℕ → Type 0) → (ℕ → ℕ → Type 0) → Profile → List ℕ → List Bool → Type 0
AreUnreadPlaces named live profile program marks =
    (k : ℕ) (i : Insn) → IsTrue (slice_index_or marks k false)
    → fetch_word profile (slice_get program k) ≡ fetch.Instruction i → IsUnread named live i k
