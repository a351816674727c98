-- The text of a machine's world.
use Rattle.std.specs.Prelude.{ℕ, ◌+◌, ◌*◌, if◌then◌else◌, List, [], ◌∷◌, ◌++◌, codes, Option, Some, None}
use Rattle.std.specs.Fmt.{decimal}
use Rattle.text_parts.specs.Digits.{hexadecimal_16, hexadecimal_12, hexadecimal_digit}
use Rattle.tag_memory.specs.Cell.{Cell, tag_number}
use Rattle.tag_memory.specs.Storage.{TaggedMemory, cell_at}
use Rattle.image_file.specs.ImageValue.{ImageValue}
use Rattle.image_file.specs.Same.{same_cell}
use Rattle.stream_core.specs.Streams.{StreamValue}
use Rattle.stream_core.specs.StreamText.{stream_text_of}
use Rattle.processor.specs.Processors.{ProcessorValue, is_idle}
use Rattle.processor.specs.World.{World}

-- Streams.

-- the line above a stream's text
unfoldable pub stream_line : ℕ → ℕ → List ℕ
stream_line p s = codes "stream " ++ decimal p ++ codes " " ++ decimal s ++ codes "\n"

-- a stream that is not idle, by its numbers
unfoldable pub stream_part : ℕ → ℕ → StreamValue → List ℕ
stream_part p s v = if is_idle v then [] else stream_line p s ++ stream_text_of v

-- the streams of a processor, of which the first has number s
abbrev pub stream_parts : ℕ → ℕ → List StreamValue → List ℕ
stream_parts p s [] = []
stream_parts p s (v ∷ vs) = stream_part p s v ++ stream_parts p (s + 1) vs

-- Processors.

-- the line of a processor and its counts
unfoldable pub processor_line : ℕ → ProcessorValue → List ℕ
processor_line p d =
    codes "processor " ++ decimal p ++ codes " scur " ++ decimal d.scur
    ++ codes " sres " ++ decimal d.sres ++ codes "\n"

-- the text of a processor: its line and its streams
abbrev pub processor_part : ℕ → ProcessorValue → List ℕ
processor_part p d = processor_line p d ++ stream_parts p 0 d.streams

-- processors of which the first has number p
abbrev pub processor_parts : ℕ → List ProcessorValue → List ℕ
processor_parts p [] = []
processor_parts p (d ∷ ds) = processor_part p d ++ processor_parts (p + 1) ds

-- Words.

-- the line of a word of the memory
unfoldable pub cell_line : ℕ → Cell → List ℕ
cell_line address c =
    codes "cell " ++ hexadecimal_12 address ++ codes " " ++ hexadecimal_16 c.value
    ++ codes " " ++ hexadecimal_digit (tag_number c) ++ codes "\n"

-- the word at an address, where it differs from the image's
abbrev pub change : ℕ → Cell → Option Cell → List ℕ
change address c None = []
change address c (Some d) = if same_cell d c then [] else cell_line address d

-- the words that differ from those of an image, of which the first is number k
abbrev pub changes : ℕ → TaggedMemory → List Cell → List ℕ
changes k m [] = []
changes k m (c ∷ cs) = change (8 * k) c (cell_at m (8 * k)) ++ changes (k + 1) m cs

-- The world of a machine that was loaded from this image.

-- the text of a world: its processors, and the words that are not the image's
unfoldable pub world_text_of : ImageValue → World → List ℕ
world_text_of image w = processor_parts 0 w.processors ++ changes 0 w.memory image.cells
