-- Images in which no word ever has the forward bit, as the image alone shows: no word has it, and no instruction is a TAGSET
-- of another register than r0, which is 0.
use Rattle.std.specs.Prelude.{ℕ, Bool, false, true, ◌||◌, ◌&&◌, ◌==◌, not, Option, Some, None}
use Rattle.std.specs.List.{list_any}
use Rattle.insn_word.specs.Reading.{instruction_in}
use Rattle.insn_word.specs.declared.operations.MemoryOp.{MemoryOp}
use Rattle.insn_word.specs.declared.operations.MemoryOp.TheVariants as memory
use Rattle.insn_word.specs.declared.profiles.Profile.{Profile}
use Rattle.insn_word.specs.declared.insn.Insn.{Insn}
use Rattle.insn_word.specs.declared.insn.Insn.TheVariants.{Wide, Normal}
use Rattle.tag_memory.specs.Cell.{Cell}
use Rattle.image_file.specs.ImageValue.{ImageValue}

-- whether a memory operation is TAGSET
abbrev pub is_tag_set : MemoryOp → Bool
is_tag_set memory.Nop = false
is_tag_set memory.Load = false
is_tag_set memory.Store = false
is_tag_set memory.FetchAdd = false
is_tag_set memory.TagGet = false
is_tag_set memory.TagSet = true
is_tag_set memory.Purge = false

-- whether an instruction has it, of another register than r0
abbrev pub sets_tags : Insn → Bool
sets_tags (Wide look op reg imm) = false
sets_tags (Normal look m a c) = is_tag_set m.op && not (m.rd == 0)

-- whether a word spells an instruction that does
abbrev pub sets_tags_if : Option Insn → Bool
sets_tags_if None = false
sets_tags_if (Some i) = sets_tags i

abbrev pub word_sets_tags : Profile → ℕ → Bool
word_sets_tags profile word = sets_tags_if (instruction_in profile word)

-- whether some word of the image has the forward bit, or some word of its program is such a TAGSET
unfoldable pub may_forward : ImageValue → Bool
may_forward image = list_any (λ (c : Cell). c.forward) image.cells || list_any (word_sets_tags image.profile) image.program
