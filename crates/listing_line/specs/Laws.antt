-- Each line of a listing is read back as what it was printed from.
use Rattle.std.specs.Prelude.{◌≡◌, ℕ, ◌^◌, ◌<◌, ◌≤◌, ◌==◌, Bool, true, false, not, nat_lt, ◌&&◌}
use Rattle.std.specs.Prelude.{List, Option, Some, None, Ok}
use Rattle.std.specs.List.{list_all}
use Rattle.insn_word.specs.Reading.{instruction_in}
use Rattle.insn_word.specs.declared.profiles.Profile.{Profile}
use Rattle.insn_word.specs.declared.profiles.Profile.TheVariants as profile
use Rattle.insn_word.specs.declared.insn.Insn.{Insn}
use Rattle.asm_line.specs.Operands.{Places}
use Rattle.asm_line.specs.Lines.{line, line_item, is_word}
use Rattle.asm_line.specs.Profiles.{profile_named}
use Rattle.asm_line.specs.declared.item.Item.{Item}
use Rattle.asm_line.specs.declared.item.Item.TheVariants as item
use Rattle.listing_line.specs.WordText.{word_line}
use Rattle.listing_line.specs.DirectiveLines.{profile_line, slim_line, chain_line, retry_line, trap_line, entry_line}
use Rattle.listing_line.specs.DirectiveLines.{fill_line}

-- a byte below 80 hexadecimal that ends no line
abbrev pub is_line_byte : ℕ → Bool
is_line_byte byte = nat_lt byte 128 && not (byte == 10)

-- What these bytes are as a line, wherever they stand in a text of this profile and so many words: they have no label,
-- and add the item.
pub record IsReadAs (p : Profile) (bytes : List ℕ) (counts : Bool) (words : ℕ) (added : Item) : Type 0 where
  pub one_line : list_all is_line_byte bytes ≡ true
  pub no_label : (line bytes).label ≡ None
  -- whether it is a word of the program
  pub counted : is_word (line bytes).statement ≡ counts
  pub adds : (places : Places) (k here : ℕ) → line_item p places words k here (line bytes) ≡ Ok added

abbrev pub item_of : ℕ → Option Insn → Item
item_of word None = item.Word word
item_of word (Some i) = item.Instruction i

-- the instruction that the word spells in the profile, or the word itself
unfoldable pub word_item : Profile → ℕ → Item
word_item p word = item_of word (instruction_in p word)

abbrev pub WordLinesReadBack : Type 0
WordLinesReadBack = (p : Profile) (place word words : ℕ) → place < 2 ^ 16 → word < 2 ^ 64
    → IsReadAs p (word_line p place word) true words (word_item p word)

abbrev pub ProfileLinesReadBack : Type 0
ProfileLinesReadBack =
    (p named : Profile) (words : ℕ) → IsReadAs p (profile_line named) false words (item.Profile named)

-- It says the profile of a text in which it is the first such line.
abbrev pub ProfileLinesTell : Type 0
ProfileLinesTell = (named : Profile) → profile_named (line (profile_line named)) ≡ Some named

abbrev pub SlimLinesReadBack : Type 0
SlimLinesReadBack = (p : Profile) (slim words : ℕ) → 1 ≤ slim → slim ≤ 128
    → IsReadAs p (slim_line slim) false words (item.Slim slim)

-- Profile 2 alone has it.
abbrev pub ChainLinesReadBack : Type 0
ChainLinesReadBack = (limit words : ℕ) → limit ≤ 64
    → IsReadAs profile.Two (chain_line limit) false words (item.Chain limit)

abbrev pub RetryLinesReadBack : Type 0
RetryLinesReadBack = (p : Profile) (retry words : ℕ) → retry < 2 ^ 32
    → IsReadAs p (retry_line retry) false words (item.Retry retry)

abbrev pub TrapLinesReadBack : Type 0
TrapLinesReadBack = (p : Profile) (trap words : ℕ) → trap < 2 ^ 32
    → IsReadAs p (trap_line trap) false words (item.Trap trap)

abbrev pub EntryLinesReadBack : Type 0
EntryLinesReadBack = (p : Profile) (entry words : ℕ) → entry < words → entry < 2 ^ 32
    → IsReadAs p (entry_line entry) false words (item.Entry entry)

abbrev pub FillLinesReadBack : Type 0
FillLinesReadBack = (p : Profile) (count value tags words : ℕ) → 1 ≤ count → count ≤ 262144 → value < 2 ^ 64 → tags < 16
    → IsReadAs p (fill_line count value tags) false words (item.Cells count value tags)
