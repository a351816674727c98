-- In what a memory differs from an image's words, as numbers of 32 bits.
use Rattle.std.specs.Prelude.{ℕ, ◌+◌, List, [], ◌∷◌, ◌++◌, if◌then◌else◌}
use Rattle.tag_memory.specs.Cell.{Cell, tag_number}
use Rattle.tag_memory.specs.Storage.{TaggedMemory}
use Rattle.image_file.specs.ImageValue.{ImageValue}
use Rattle.image_file.specs.Same.{same_cell}
use Rattle.world_keys.specs.StreamNumbers.{halves}

-- word n where it is d, and was c: nothing where they are the same, else its place, its tags and its value
abbrev pub cell_change : ℕ → Cell → Cell → List ℕ
cell_change n c d = if same_cell c d then [] else n ∷ tag_number d ∷ halves d.value

-- the same of words that are numbered from n on
unfoldable pub changes : ℕ → List Cell → List Cell → List ℕ
changes n [] ds = []
changes n (c ∷ cs) [] = []
changes n (c ∷ cs) (d ∷ ds) = cell_change n c d ++ changes (n + 1) cs ds

-- in what a memory differs from the image's words
abbrev pub memory_numbers : ImageValue → TaggedMemory → List ℕ
memory_numbers image m = changes 0 image.cells m.cells
