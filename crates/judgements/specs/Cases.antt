-- What a case makes of a submission, and what it requires of it.
use Rattle.std.specs.Prelude.{◌≡◌, ℕ, ⊤, ◌==◌, ◌||◌, Bool, true, false, if◌then◌else◌, List, [], ◌∷◌, length, Option, Some, None, unwrap_or, Ok, Err, IsNone}
use Rattle.image_file.specs.ImageValue.{ImageValue}
use Rattle.source_places.specs.DataNames.{DataNameValue, data_names}
use Rattle.source_places.specs.SourceLabels.{labels_of}
use Rattle.expectation_files.specs.Addresses.{Names}
use Rattle.expectation_files.specs.Files.{FileSaid, file_said}
use Rattle.expectation_files.specs.declared.faults.FileFault.TheVariants as file
use Rattle.expectation_files.specs.OfProgram.{is_of_program}
use Rattle.expectation_files.specs.declared.faults.LineFault.{LineFault}
use Rattle.expectation_files.specs.declared.faults.LineFaultKind.{LineFaultKind}
use Rattle.expectation_files.specs.declared.faults.LineFaultKind.TheVariants as line_fault
use Rattle.expectation_files.specs.Seen.{requirements_seen}
use Rattle.expectation_files.specs.declared.requirements.Requirements.{Requirements}
use Rattle.case_cells.specs.NamedWords.{places_by_name, given_cells}
use Rattle.case_cells.specs.declared.named_words.WordPlaces.{WordPlaces}
use Rattle.case_cells.specs.SpokenWords.{spoken_words, first_other}
use Rattle.seed_outcomes.specs.SeedVerdictsTypes.Seeds.{Seeds}
use Rattle.judgements.specs.declared.cases.Case.{Case}
use Rattle.judgements.specs.declared.cases.AskedJudging.{AskedJudging}

-- the image that a case makes of a submission of this image and text, where the case has cells: these stand at the words of
-- their names, where each line of them has a name and the text gives the words of each; and else from the first word on, with
-- the words that the submission has more behind them
abbrev pub image_with : ImageValue → List ℕ → Case → Option ImageValue → Option ImageValue
image_with image text case None = None
image_with image text case (Some cells) = Some (record image
    { cells = given_cells (places_by_name case.given.items text) cells.cells image.cells })

abbrev pub given_image : ImageValue → List ℕ → Case → Option ImageValue
given_image image text case = image_with image text case case.cells

-- the program that a case makes of a submission of this image and text: its own, where the case has no cells
abbrev pub program_by : ImageValue → List ℕ → Case → ImageValue
program_by image text case = unwrap_or (given_image image text case) image

-- these names of data words, where there are some, else those
abbrev pub names_or : List DataNameValue → List DataNameValue → List DataNameValue
names_or given own = if length given == 0 then own else given

-- The names by which a case speaks of a submission of this text. Where the case's words stand at the submission's words of
-- their names, those of data words are the submission's own.
abbrev pub word_names_by : Option (List WordPlaces) → Case → List ℕ → List DataNameValue
word_names_by None case text = names_or (data_names case.given.items) (data_names text)
word_names_by (Some places) case text = data_names text

abbrev pub names_by : Case → List ℕ → Names
names_by case text = record {
  word_names = word_names_by (places_by_name case.given.items text) case text;
  labels = labels_of text;
}

-- the names by which a submission of this text speaks of itself
abbrev pub names_in_submission : List ℕ → Names
names_in_submission text = record { word_names = data_names text; labels = labels_of text }

-- The names by which a case speaks of its own words, of which the others are the submission's.
abbrev pub names_in_case : Case → List ℕ → Names
names_in_case case text = record {
  word_names = names_or (data_names case.given.items) (data_names text);
  labels = labels_of text;
}

-- what a case says of a program with its cells
abbrev pub said_by : Case → ImageValue → List ℕ → FileSaid
said_by case image text = file_said (names_by case text) image case.expected.items

-- the same by the places of the submission's words
abbrev pub said_in_submission : Case → ImageValue → List ℕ → FileSaid
said_in_submission case image text = file_said (names_in_submission text) image case.expected.items

-- the same by the places of the case's own words
abbrev pub said_in_case : Case → ImageValue → List ℕ → FileSaid
said_in_case case image text = file_said (names_in_case case text) image case.expected.items

-- where words of a case with so many cells stand in a submission: by name, or all of them from the first one on
abbrev pub places_or : Option (List WordPlaces) → ℕ → List WordPlaces
places_or None count = record { given = 0; own = 0; count = count } ∷ []
places_or (Some places) count = places

-- Each line of a case speaks of words that its cells give, and of the same words in the submission.
pub record SpeaksOfGiven (image : ImageValue) (text : List ℕ) (case : Case) (cells : ImageValue) (required : Requirements)
    : Type 0 where
  pub in_case : Requirements
  pub said : said_in_case case image text ≡ Ok (requirements_seen in_case)
  pub same : IsNone (first_other (places_or (places_by_name case.given.items text) (length cells.cells)) 0
      (spoken_words in_case) (spoken_words required))

-- the same of a case, where it has cells
abbrev pub SpeaksOfGivenIn : ImageValue → List ℕ → Case → Option ImageValue → Requirements → Type 0
SpeaksOfGivenIn image text case None required = ⊤
SpeaksOfGivenIn image text case (Some cells) required = SpeaksOfGiven image text case cells required

-- A line of a case speaks of a word that its cells do not give, or that is another one in the submission.
pub data SpeaksOfOthers (image : ImageValue) (text : List ℕ) (case : Case) (cells : ImageValue) (required : Requirements)
    : Type 0 where
  -- by the case's own words the line says nothing
  by_line : (number : ℕ) (fault : LineFault) → said_in_case case image text ≡ Err (file.Line number fault)
      → SpeaksOfOthers image text case cells required
  -- the word is not at its place, or is not given
  by_word : (in_case : Requirements) (place : ℕ) → said_in_case case image text ≡ Ok (requirements_seen in_case)
      → first_other (places_or (places_by_name case.given.items text) (length cells.cells)) 0 (spoken_words in_case)
      (spoken_words required) ≡ Some place → SpeaksOfOthers image text case cells required

-- the same of a case, which has cells
abbrev pub SpeaksOfOthersIn : ImageValue → List ℕ → Case → Option ImageValue → Requirements → Type 0
SpeaksOfOthersIn image text case None required = ⊥
SpeaksOfOthersIn image text case (Some cells) required = SpeaksOfOthers image text case cells required

-- Whether a line with such a fault may be right of another program: it names what this one lacks, or words that stand the
-- other way round here.
abbrev pub is_range : LineFaultKind → Bool
is_range line_fault.Range = true
is_range other = false

abbrev pub may_be_of_program : LineFaultKind → Bool
may_be_of_program k = is_of_program k || is_range k

-- the seeds that are tried
abbrev pub seeds_of : AskedJudging → Seeds
seeds_of asked = record { first = 0; count = asked.seeds; most = asked.most }
