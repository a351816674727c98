-- The words of a memory that are not as its image has them.
use Rattle.std.specs.Prelude.{◌==◌, ◌&&◌, ℕ, ◌+◌, ◌*◌, Bool, List, [], ◌∷◌, ◌++◌, Option, Some, None, if◌then◌else◌}
use Rattle.std.specs.Option.{option_to_list}
use Rattle.tag_memory.specs.Cell.{Cell, tag_number}
use Rattle.tag_memory.specs.Storage.{TaggedMemory, cell_at}
use Rattle.image_file.specs.ImageValue.{ImageValue}
use Rattle.changed_words.specs.declared.changed.ChangedWord.{ChangedWord}

-- whether two words have the same value and the same tags
abbrev pub is_same_word : Cell → Cell → Bool
is_same_word c d = (c.value == d.value) && (tag_number c == tag_number d)

-- the word at a byte address, which may be missing, if it is not this one
abbrev pub changed_if : ℕ → Cell → Option Cell → Option ChangedWord
changed_if a c None = None
changed_if a c (Some d) = if is_same_word c d then None else Some (record { address = a; before = c; after = d })

-- the word at a place of a memory, whose byte address is 8 times the place, if it is not this one
abbrev pub changed_at : TaggedMemory → ℕ → Cell → Option ChangedWord
changed_at m index c = changed_if (8 * index) c (cell_at m (8 * index))

-- the words of a memory that are not these, which stand from a place on
abbrev pub changed_from : TaggedMemory → ℕ → List Cell → List ChangedWord
changed_from m index [] = []
changed_from m index (c ∷ cs) = option_to_list (changed_at m index c) ++ changed_from m (index + 1) cs

-- the words of a memory that are not as the image has them, in ascending order of their addresses
abbrev pub changed_words : ImageValue → TaggedMemory → List ChangedWord
changed_words image m = changed_from m 0 image.cells
