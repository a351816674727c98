-- What every draft keeps, and what is added to one.
use Rattle.std.specs.Prelude.{◌≡◌, ℕ, ◌≤◌, ◌<◌, true, ⊤, All, length, IfSome}
use Rattle.insn_word.specs.Words.{IsValidIn}
use Rattle.insn_word.specs.declared.profiles.Profile.{Profile}
use Rattle.tag_memory.specs.Storage.{most_memory_words}
use Rattle.image_file.specs.ImageValue.{most_processors, most_program_words}
use Rattle.asm_line.specs.Names.{has_chain}
use Rattle.asm_line.specs.declared.item.Item.{Item}
use Rattle.asm_line.specs.declared.item.Item.TheVariants as item
use Rattle.asm_text.specs.Drafts.{DraftValue}

-- the limits of an image, for a text of this profile and so many instruction lines
pub record KeepsLimits (p : Profile) (words : ℕ) (d : DraftValue) : Type 0 where
  pub slim : IfSome d.settings.slim (λ n. (1 ≤ n) × (n ≤ 128))
  pub chain : IfSome d.settings.chain (λ n. (has_chain p ≡ true) × (n ≤ 64))
  pub few_entries : length d.entries ≤ most_processors
  pub entries_stand : All (λ e. e < words) d.entries
  pub few_words : length d.words ≤ most_program_words
  pub few_cells : length d.cells ≤ most_memory_words

-- an instruction that some word spells in some profile, and tags of four bits
abbrev pub IsReady : Item → Type 0
IsReady (item.Instruction i) = (p : Profile) × IsValidIn p i
IsReady (item.Cells count value tags) = tags < 16
IsReady _ = ⊤
