-- The first fault of an image's parts.
use Rattle.std.specs.Prelude.{ℕ, Bool, not, ◌&&◌, nat_le, nat_lt, List, length, Option, Some, None, if◌then◌else◌}
use Rattle.std.specs.Option.{option_map}
use Rattle.std.specs.List.{position}
use Rattle.tag_memory.specs.Storage.{most_chain_limit, most_memory_words}
use Rattle.image_file.specs.declared.fault.CountField.{CountField}
use Rattle.image_file.specs.declared.fault.CountField.TheVariants.{Processors, Slim, Chain, Program, Cells}
use Rattle.image_file.specs.declared.fault.ImageFault.{ImageFault}
use Rattle.image_file.specs.declared.fault.ImageFault.TheVariants.{Count, Entry}
use Rattle.image_file.specs.Fault.{first_of}
use Rattle.image_file.specs.ImageValue.{ImageValue, most_processors, most_program_words}

-- whether n is 1 to most
abbrev pub is_one_to : ℕ → ℕ → Bool
is_one_to most n = nat_le 1 n && nat_le n most

-- the first number that is out of its limits
abbrev pub count_fault : (processors slim chain words cells : ℕ) → Option CountField
count_fault processors slim chain words cells =
    if not (is_one_to most_processors processors) then Some Processors
    else if not (is_one_to 128 slim) then Some Slim
    else if nat_lt most_chain_limit chain then Some Chain
    else if not (is_one_to most_program_words words) then Some Program
    else if not (is_one_to most_memory_words cells) then Some Cells
    else None

-- the least processor whose entry is not below the number of program words
abbrev pub entry_fault : (words : ℕ) → (entries : List ℕ) → Option ℕ
entry_fault words entries = position (λ e. nat_le words e) entries

-- a number that is out of its limits comes before an entry
abbrev pub parts_fault : ImageValue → Option ImageFault
parts_fault i =
    first_of
    (option_map Count (count_fault (length i.entries) i.slim i.chain_limit (length i.program) (length i.cells)))
    (option_map Entry (entry_fault (length i.program) i.entries))
