-- An image in the making: what the first lines of a text give.
use Rattle.std.specs.Prelude.{ℕ, ◌+◌, Bool, nat_lt, nat_le, ◌&&◌, if◌then◌else◌}
use Rattle.std.specs.Prelude.{List, [], ◌∷◌, ◌++◌, length, replicate, Result, Ok, Err, unwrap_or}
use Rattle.insn_word.specs.Fields.{number_of_fields}
use Rattle.insn_word.specs.Words.{fields}
use Rattle.insn_word.specs.declared.profiles.Profile.{Profile}
use Rattle.tag_memory.specs.Cell.{Cell, cell_of}
use Rattle.tag_memory.specs.Storage.{default_chain_limit, most_memory_words}
use Rattle.image_file.specs.ImageValue.{ImageValue, most_processors, most_program_words}
use Rattle.asm_line.specs.Faults.{map_ok}
use Rattle.asm_line.specs.declared.fault.Fault.{Fault}
use Rattle.asm_line.specs.declared.fault.Fault.TheVariants as fault
use Rattle.asm_line.specs.declared.item.Item.{Item}
use Rattle.asm_line.specs.declared.item.Item.TheVariants as item
use Rattle.asm_text.specs.declared.settings.Settings.{Settings}
use Rattle.asm_text.specs.Settings.{no_settings, profile_set, slim_set, chain_set, retry_set, trap_set}

-- what the lines have set, and the entries, program words and cells that they have added
pub record DraftValue : Type 0 where
  pub settings : Settings
  pub entries : List ℕ
  pub words : List ℕ
  pub cells : List Cell

-- the draft of no line
abbrev pub empty : DraftValue
empty = record { settings = no_settings; entries = []; words = []; cells = [] }

-- the draft with these settings, where they may stand
abbrev pub with_settings : DraftValue → Result Settings Fault → Result DraftValue Fault
with_settings d r = map_ok (λ s. record d { settings = s }) r

-- There are at most as many entries, program words and cells as an image may have.

-- the draft with one more entry
abbrev pub with_entry : DraftValue → ℕ → Result DraftValue Fault
with_entry d n =
    if nat_lt (length d.entries) most_processors then Ok (record d { entries = d.entries ++ n ∷ [] }) else Err fault.Limit

-- the draft with one more program word
abbrev pub with_word : DraftValue → ℕ → Result DraftValue Fault
with_word d w =
    if nat_lt (length d.words) most_program_words then Ok (record d { words = d.words ++ w ∷ [] }) else Err fault.Limit

-- the draft with so many more cells, which are alike
abbrev pub with_cells : DraftValue → ℕ → Cell → Result DraftValue Fault
with_cells d n c =
    if nat_le (length d.cells + n) most_memory_words then Ok (record d { cells = d.cells ++ replicate n c }) else Err fault.Limit

-- What a line's item adds, if it may. An instruction adds the word of its fields.
unfoldable pub add : DraftValue → Item → Result DraftValue Fault
add d item.Nothing = Ok d
add d (item.Profile p) = with_settings d (profile_set d.settings)
add d (item.Slim n) = with_settings d (slim_set d.settings n)
add d (item.Chain n) = with_settings d (chain_set d.settings n)
add d (item.Retry n) = with_settings d (retry_set d.settings n)
add d (item.Trap n) = with_settings d (trap_set d.settings n)
add d (item.Entry n) = with_entry d n
add d (item.Instruction i) = with_word d (number_of_fields (fields i))
add d (item.Word w) = with_word d w
add d (item.Cells count value tags) = with_cells d count (cell_of value tags)

-- an entry, a program word and a cell at least
abbrev pub has_all : DraftValue → Bool
has_all d = nat_lt 0 (length d.entries) && (nat_lt 0 (length d.words) && nat_lt 0 (length d.cells))

-- the image of this profile, where a directive that does not stand leaves its default
unfoldable pub image_of_draft : Profile → DraftValue → ImageValue
image_of_draft p d = record {
  profile = p;
  slim = unwrap_or d.settings.slim 8;
  chain_limit = unwrap_or d.settings.chain default_chain_limit;
  retry_limit = unwrap_or d.settings.retry 0;
  trap_entry = unwrap_or d.settings.trap 4294967295;
  entries = d.entries;
  program = d.words;
  cells = d.cells;
}
