-- What stands at a place of a program, and where a stream goes on from there without a target register.
use Rattle.std.specs.Prelude.{◌≡◌, ℕ, Option, Some, None, slice_get}
use Rattle.insn_word.specs.Reading.{instruction_in}
use Rattle.insn_word.specs.declared.profiles.Profile.{Profile}
use Rattle.insn_word.specs.declared.operations.ControlOp.{ControlOp}
use Rattle.insn_word.specs.declared.operations.ControlOp.TheVariants as control
use Rattle.insn_word.specs.declared.operations.Condition.{Condition}
use Rattle.insn_word.specs.declared.operations.Condition.TheVariants as condition
use Rattle.insn_word.specs.declared.insn.CPart.{CPart}
use Rattle.insn_word.specs.declared.insn.Insn.{Insn}
use Rattle.insn_word.specs.declared.insn.Insn.TheVariants.{Wide, Normal}
use Rattle.image_file.specs.ImageValue.{ImageValue}
use Rattle.stream_core.specs.Effects.{next_pc}
use Rattle.program_flow.specs.Flow.{GoesBy}

-- the instruction that a word spells, if there is a word and it spells one
abbrev pub insn_of : Profile → Option ℕ → Option Insn
insn_of profile None = None
insn_of profile (Some word) = instruction_in profile word

-- the instruction that stands at place k of the image's program, if there is one
abbrev pub insn_at : ImageValue → ℕ → Option Insn
insn_at image k = insn_of image.profile (slice_get image.program k)

-- where a JUMP with this condition goes on without its target register: at the next place, unless it always jumps
abbrev pub StaysBy : Condition → ℕ → ℕ → Type 0
StaysBy condition.Always next j = ⊥
StaysBy c next j = j ≡ next

-- A control operation at place k goes on at place j, and not by a target register: at the next place, or where SKIP leads.
abbrev pub GoesStraightBy : ControlOp → CPart → ℕ → ℕ → Type 0
GoesStraightBy control.Jump c k j = StaysBy c.cond (next_pc k) j
GoesStraightBy control.Call c k j = ⊥
GoesStraightBy control.Exchange c k j = ⊥
GoesStraightBy o c k j = GoesBy o c k j

-- An instruction at place k that is done goes on at place j, and not by a target register.
abbrev pub GoesStraight : Insn → ℕ → ℕ → Type 0
GoesStraight (Wide look op reg imm) k j = j ≡ next_pc k
GoesStraight (Normal look m a c) k j = GoesStraightBy c.op c k j
