-- The listing of an image.
use Rattle.std.specs.Prelude.{ℕ, ◌+◌, ◌==◌, if◌then◌else◌, List, [], ◌∷◌, ◌++◌, map, codes}
use Rattle.std.specs.List.{flat_map}
use Rattle.tag_memory.specs.Cell.{Cell, tag_number}
use Rattle.insn_word.specs.declared.profiles.Profile.{Profile}
use Rattle.insn_word.specs.declared.profiles.Profile.TheVariants as profile
use Rattle.image_file.specs.ImageValue.{ImageValue}
use Rattle.listing_line.specs.WordText.{word_line}
use Rattle.listing_line.specs.DirectiveLines.{profile_line, slim_line, chain_line, retry_line, trap_line, entry_line}
use Rattle.listing_line.specs.DirectiveLines.{fill_line}
use Rattle.text_parts.specs.Runs.{Run}
use Rattle.asm_text.specs.Runs.{cell_runs}

-- no line where there is no trap entry
abbrev pub trap_lines : ℕ → List (List ℕ)
trap_lines trap = if trap == 4294967295 then [] else trap_line trap ∷ []

-- Profile 1 has no line for it
abbrev pub chain_lines : Profile → ℕ → List (List ℕ)
chain_lines profile.One limit = []
chain_lines profile.Two limit = chain_line limit ∷ []

-- the lines of the directives that stand once
abbrev pub setting_lines : ImageValue → List (List ℕ)
setting_lines i =
    profile_line i.profile ∷ slim_line i.slim
    ∷ (chain_lines i.profile i.chain_limit ++ retry_line i.retry_limit ∷ trap_lines i.trap_entry)

-- the words of which the first is at this place of the program
abbrev pub word_lines : Profile → ℕ → List ℕ → List (List ℕ)
word_lines p place [] = []
word_lines p place (w ∷ ws) = word_line p place w ∷ word_lines p (place + 1) ws

-- the line of a run of equal cells
abbrev pub cell_run_line : Run Cell → List ℕ
cell_run_line r = fill_line r.times r.thing.value (tag_number r.thing)

-- the lines, without their ends
unfoldable pub listing_lines : ImageValue → List (List ℕ)
listing_lines i =
    setting_lines i ++
    (map entry_line i.entries ++ (word_lines i.profile 0 i.program ++ map cell_run_line (cell_runs i.cells)))

-- a line with its line feed
abbrev pub with_line_end : List ℕ → List ℕ
with_line_end line = line ++ codes "\n"

-- lines as a text, each with its end
abbrev pub text_of_lines : List (List ℕ) → List ℕ
text_of_lines lines = flat_map with_line_end lines

-- the listing of an image: the text of its lines
unfoldable pub listing : ImageValue → List ℕ
listing i = text_of_lines (listing_lines i)
