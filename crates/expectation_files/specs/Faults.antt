-- All faults of a file of expectations.
use Rattle.std.specs.Prelude.{ℕ, ◌+◌, Bool, true, false, not, List, [], ◌∷◌, ◌++◌, filter, Ok, Err}
use Rattle.std.proofs.Math.ListN.{replicate}
use Rattle.tag_memory.specs.Cell.{cell_of}
use Rattle.text_parts.specs.Pieces.{pieces}
use Rattle.image_file.specs.ImageValue.{ImageValue, image_of}
use Rattle.expectation_files.specs.Addresses.{Names}
use Rattle.expectation_files.specs.Lines.{MeaningSaid, said_after, has_after}
use Rattle.expectation_files.specs.Files.{FileSaid, file_said}
use Rattle.expectation_files.specs.OfProgram.{is_of_program}
use Rattle.expectation_files.specs.declared.faults.FileFault.{FileFault}
use Rattle.expectation_files.specs.declared.faults.FileFault.TheVariants as file

-- the fault of the line of this number, if it has one
abbrev pub fault_on : ℕ → MeaningSaid → List FileFault
fault_on k (Ok m) = []
fault_on k (Err f) = file.Line k f ∷ []

-- the faults of lines of which the first has this number, after others that say how many points there are or not
abbrev pub faults_from : Names → ImageValue → Bool → ℕ → List (List ℕ) → List FileFault
faults_from names i has k [] = []
faults_from names i has k (l ∷ ls) =
    fault_on k (said_after names i has l)
    ++ faults_from names i (has_after has (said_after names i has l)) (k + 1) ls

-- these faults; that a file says nothing is one where there is no other
abbrev pub or_empty : FileSaid → List FileFault → List FileFault
or_empty said (f ∷ fs) = f ∷ fs
or_empty (Err file.Empty) [] = file.Empty ∷ []
or_empty (Err file.NoMemory) [] = []
or_empty (Err (file.Line k f)) [] = []
or_empty (Ok v) [] = []

-- the faults of all lines of a text, for a program with these names and this image
abbrev pub file_faults : Names → ImageValue → List ℕ → List FileFault
file_faults names i text = or_empty (file_said names i text) (faults_from names i false 1 (pieces 10 text))

-- A file that is read alone.

-- no name
abbrev pub no_names : Names
no_names = record { word_names = []; labels = [] }

-- the image with all streams that an image can have
abbrev pub widest_image : ImageValue
widest_image = image_of (replicate 16 0) 128 0 0 (0 ∷ []) (cell_of 0 1 ∷ [])

-- whether a fault is none of a program
abbrev pub is_of_form : FileFault → Bool
is_of_form (file.Line k f) = not (is_of_program f.kind)
is_of_form file.Empty = true
is_of_form file.NoMemory = true

-- the faults of all lines of a text that are of no program
abbrev pub form_faults : List ℕ → List FileFault
form_faults text =
    or_empty (file_said no_names widest_image text)
    (filter is_of_form (faults_from no_names widest_image false 1 (pieces 10 text)))
