-- Which bytes stand for which image: its fields one after another.
use Rattle.std.specs.Prelude.{◌≡◌, ℕ, ◌<◌, ◌^◌, List, [], ◌∷◌, ◌++◌, length}
use Rattle.std.specs.List.{concat, flat_map, AllByRecursion}
use Rattle.tag_memory.specs.Cell.{Cell, tag_number}
use Rattle.image_file.specs.ImageValue.{ImageValue, IsWithin}
use Rattle.image_file.specs.Fields.{number_bytes}
use Rattle.image_file.specs.Versions.{version_of, chain_size}

-- the text MTAP
abbrev pub magic : ℕ
magic = 0x4d544150

-- the four bytes of a processor's entry
abbrev pub entry_bytes : ℕ → List ℕ
entry_bytes e = number_bytes 4 e

-- the eight bytes of a program word
abbrev pub word_bytes : ℕ → List ℕ
word_bytes w = number_bytes 8 w

-- the value, then the tags
abbrev pub cell_bytes : Cell → List ℕ
cell_bytes c = number_bytes 8 c.value ++ number_bytes 1 (tag_number c)

-- the header of these numbers, whose chain limit has size bytes
unfoldable pub header_bytes : (magic version processors slim size chain_limit retry_limit trap_entry words cells : ℕ)
    → List ℕ
header_bytes magic version processors slim size chain_limit retry_limit trap_entry words cells =
    concat (
    number_bytes 4 magic
    ∷ number_bytes 2 version
    ∷ number_bytes 2 processors
    ∷ number_bytes 2 slim
    ∷ number_bytes size chain_limit
    ∷ number_bytes 4 retry_limit
    ∷ number_bytes 4 trap_entry
    ∷ number_bytes 4 words
    ∷ number_bytes 4 cells
    ∷ [])

-- the header's bytes of an image
abbrev pub header_of : ImageValue → List ℕ
header_of i =
    header_bytes magic (version_of i.profile) (length i.entries) i.slim (chain_size i.profile) i.chain_limit
    i.retry_limit i.trap_entry (length i.program) (length i.cells)

-- the bytes of an image: header, entries, program words, data words
unfoldable pub bytes_of_image : ImageValue → List ℕ
bytes_of_image i =
    header_of i ++ (flat_map entry_bytes i.entries ++ (flat_map word_bytes i.program ++ flat_map cell_bytes i.cells))

-- each number fits its field
pub record Fits (i : ImageValue) : Type 0 where
  pub retry_limit : i.retry_limit < 2 ^ 32
  pub trap_entry : i.trap_entry < 2 ^ 32
  pub program : AllByRecursion (λ w. w < 2 ^ 64) i.program
  pub cells : AllByRecursion (λ c. c.value < 2 ^ 64) i.cells

-- the bytes stand for the image, which is within its limits
pub record Stands (bytes : List ℕ) (i : ImageValue) : Type 0 where
  pub within : IsWithin i
  pub fits : Fits i
  pub spelled : bytes ≡ bytes_of_image i
