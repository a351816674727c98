-- What bytes say at each place, and the first fault that they have.
use Rattle.std.specs.Prelude.{ℕ, ◌+◌, ◌*◌, ◌==◌, not, nat_le, nat_lt, List, length, drop}
use Rattle.std.specs.Prelude.{Option, Some, None, unwrap_or, if◌then◌else◌}
use Rattle.std.specs.Option.{option_map}
use Rattle.std.specs.List.{position}
use Rattle.insn_word.specs.declared.profiles.Profile.{Profile}
use Rattle.insn_word.specs.declared.profiles.Profile.TheVariants.{One, Two}
use Rattle.tag_memory.specs.Cell.{Cell, cell_of}
use Rattle.tag_memory.specs.Storage.{default_chain_limit}
use Rattle.image_file.specs.declared.fault.ImageFault.{ImageFault}
use Rattle.image_file.specs.declared.fault.ImageFault.TheVariants.{Short, Magic, Version, Count, Entry, TagByte}
use Rattle.image_file.specs.declared.fault.ImageFault.TheVariants.{Trailing}
use Rattle.image_file.specs.ImageValue.{ImageValue, image_in}
use Rattle.image_file.specs.Fault.{first_of}
use Rattle.image_file.specs.Fields.{number_of_bytes, parts_of}
use Rattle.image_file.specs.Parts.{count_fault, entry_fault}
use Rattle.image_file.specs.Versions.{profile_of_version, chain_place, tail_place, header_length}
use Rattle.image_file.specs.Spelling.{magic}

-- ---- the numbers of the header

abbrev pub version_at : List ℕ → ℕ
version_at bytes = number_of_bytes 2 (drop 4 bytes)

-- the profile whose images the version has; One where no images have it, and the bytes have a fault
unfoldable pub profile_at : List ℕ → Profile
profile_at bytes = unwrap_or (profile_of_version (version_at bytes)) One

abbrev pub processors_at : List ℕ → ℕ
processors_at bytes = number_of_bytes 2 (drop 6 bytes)

abbrev pub slim_at : List ℕ → ℕ
slim_at bytes = number_of_bytes 2 (drop 8 bytes)

-- version 1 has no bytes for it
abbrev pub chain_limit_in : Profile → List ℕ → ℕ
chain_limit_in One bytes = default_chain_limit
chain_limit_in Two bytes = number_of_bytes 2 (drop chain_place bytes)

abbrev pub chain_limit_at : List ℕ → ℕ
chain_limit_at bytes = chain_limit_in (profile_at bytes) bytes

-- the bytes behind the chain limit
abbrev pub tail_at : List ℕ → List ℕ
tail_at bytes = drop (tail_place (profile_at bytes)) bytes

abbrev pub retry_limit_at : List ℕ → ℕ
retry_limit_at bytes = number_of_bytes 4 (tail_at bytes)

abbrev pub trap_entry_at : List ℕ → ℕ
trap_entry_at bytes = number_of_bytes 4 (drop 4 (tail_at bytes))

abbrev pub words_at : List ℕ → ℕ
words_at bytes = number_of_bytes 4 (drop 8 (tail_at bytes))

abbrev pub cells_at : List ℕ → ℕ
cells_at bytes = number_of_bytes 4 (drop 12 (tail_at bytes))

-- ---- the lists behind it

abbrev pub entries_place : List ℕ → ℕ
entries_place bytes = header_length (profile_at bytes)

abbrev pub program_place : List ℕ → ℕ
program_place bytes = entries_place bytes + 4 * processors_at bytes

abbrev pub cells_place : List ℕ → ℕ
cells_place bytes = program_place bytes + 8 * words_at bytes

-- the length that the header asks for
abbrev pub asked_length : List ℕ → ℕ
asked_length bytes = cells_place bytes + 9 * cells_at bytes

abbrev pub entries_from : (count : ℕ) → List ℕ → List ℕ
entries_from count bytes = parts_of 4 (number_of_bytes 4) count bytes

abbrev pub program_from : (count : ℕ) → List ℕ → List ℕ
program_from count bytes = parts_of 8 (number_of_bytes 8) count bytes

-- the tag byte of the cell in front
abbrev pub tag_byte : List ℕ → ℕ
tag_byte bytes = number_of_bytes 1 (drop 8 bytes)

abbrev pub tags_from : (count : ℕ) → List ℕ → List ℕ
tags_from count bytes = parts_of 9 tag_byte count bytes

abbrev pub cell_from : List ℕ → Cell
cell_from bytes = cell_of (number_of_bytes 8 bytes) (tag_byte bytes)

abbrev pub cells_from : (count : ℕ) → List ℕ → List Cell
cells_from count bytes = parts_of 9 cell_from count bytes

-- the image that the bytes say, if they say one
unfoldable pub image_at : List ℕ → ImageValue
image_at bytes =
    image_in
    (profile_at bytes)
    (chain_limit_at bytes)
    (entries_from (processors_at bytes) (drop (entries_place bytes) bytes))
    (slim_at bytes)
    (retry_limit_at bytes)
    (trap_entry_at bytes)
    (program_from (words_at bytes) (drop (program_place bytes) bytes))
    (cells_from (cells_at bytes) (drop (cells_place bytes) bytes))

-- ---- the first fault

-- no images have the version, or there are fewer bytes than its header has
abbrev pub version_fault : Option Profile → (bytes : List ℕ) → Option ImageFault
version_fault None bytes = Some Version
version_fault (Some profile) bytes = if nat_lt (length bytes) (header_length profile) then Some Short else None

unfoldable pub front_fault : List ℕ → Option ImageFault
front_fault bytes =
    if nat_lt (length bytes) (header_length One) then Some Short
    else if not (number_of_bytes 4 bytes == magic) then Some Magic
    else version_fault (profile_of_version (version_at bytes)) bytes

abbrev pub header_fault : List ℕ → Option ImageFault
header_fault bytes =
    first_of (front_fault bytes)
    (option_map Count
    (count_fault (processors_at bytes) (slim_at bytes) (chain_limit_at bytes) (words_at bytes) (cells_at bytes)))

-- the least cell whose tag byte is above 15
abbrev pub tag_fault : (tags : List ℕ) → Option ℕ
tag_fault tags = position (λ t. nat_le 16 t) tags

unfoldable pub body_fault : List ℕ → Option ImageFault
body_fault bytes =
    if nat_lt (length bytes) (asked_length bytes) then Some Short
    else
    first_of
    (option_map Entry
    (entry_fault (words_at bytes) (entries_from (processors_at bytes) (drop (entries_place bytes) bytes))))
    (first_of
    (option_map TagByte (tag_fault (tags_from (cells_at bytes) (drop (cells_place bytes) bytes))))
    (if nat_lt (asked_length bytes) (length bytes) then Some Trailing else None))

-- none where the bytes stand for an image
abbrev pub image_fault : List ℕ → Option ImageFault
image_fault bytes = first_of (header_fault bytes) (body_fault bytes)
