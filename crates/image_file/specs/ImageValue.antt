-- An image, as contracts see it, and the limits that every image keeps.
use Rattle.std.specs.Prelude.{◌≡◌, ℕ, ◌≤◌, ◌<◌, List, length}
use Rattle.std.specs.Prelude.{All}
use Rattle.insn_word.specs.declared.profiles.Profile.{Profile}
use Rattle.insn_word.specs.declared.profiles.Profile.TheVariants.{One, Two}
use Rattle.tag_memory.specs.Cell.{Cell}
use Rattle.tag_memory.specs.Storage.{default_chain_limit, most_chain_limit, most_memory_words}

-- an image: its profile, its limits, the trap entry, each processor's entry, the program and the data words
pub record ImageValue : Type 0 where
  pub profile : Profile
  pub slim : ℕ
  pub chain_limit : ℕ
  pub retry_limit : ℕ
  pub trap_entry : ℕ
  pub entries : List ℕ
  pub program : List ℕ
  pub cells : List Cell

-- the most processors of an image
abbrev pub most_processors : ℕ
most_processors = 16

-- the most program words of an image
abbrev pub most_program_words : ℕ
most_program_words = 65536

-- the limits; an image of Profile One has no chain limit of its own
pub record IsWithin (i : ImageValue) : Type 0 where
  pub some_processors : 1 ≤ length i.entries
  pub few_processors : length i.entries ≤ most_processors
  pub some_slim : 1 ≤ i.slim
  pub few_slim : i.slim ≤ 128
  pub chain : i.chain_limit ≤ most_chain_limit
  pub chain_of_one : i.profile ≡ One → i.chain_limit ≡ default_chain_limit
  pub some_words : 1 ≤ length i.program
  pub few_words : length i.program ≤ most_program_words
  pub some_cells : 1 ≤ length i.cells
  pub few_cells : length i.cells ≤ most_memory_words
  pub entries_stand : All (λ e. e < length i.program) i.entries

-- the image of this profile, this chain limit and these parts
abbrev pub image_in : Profile → (chain : ℕ) → List ℕ → ℕ → ℕ → ℕ → List ℕ → List Cell → ImageValue
image_in profile chain entries slim retry_limit trap_entry program cells = record {
  profile = profile;
  slim = slim;
  chain_limit = chain;
  retry_limit = retry_limit;
  trap_entry = trap_entry;
  entries = entries;
  program = program;
  cells = cells;
}

-- the image of Profile One of these parts
abbrev pub image_of : List ℕ → ℕ → ℕ → ℕ → List ℕ → List Cell → ImageValue
image_of entries slim retry_limit trap_entry program cells =
    image_in One default_chain_limit entries slim retry_limit trap_entry program cells

-- the image of Profile Two with this chain limit, of these parts
abbrev pub image_of_2 : (chain : ℕ) → List ℕ → ℕ → ℕ → ℕ → List ℕ → List Cell → ImageValue
image_of_2 chain entries slim retry_limit trap_entry program cells =
    image_in Two chain entries slim retry_limit trap_entry program cells
