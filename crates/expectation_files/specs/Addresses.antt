-- Addresses of data words, by numbers and by names, and addresses of program words, by numbers and by labels.
use Rattle.std.specs.Prelude.{ℕ, ◌+◌, ◌-◌, ◌*◌, ◌%◌, ◌^◌, ◌==◌, nat_lt, nat_le, ◌&&◌, if◌then◌else◌, List, length, take, drop, find}
use Rattle.std.specs.Prelude.{Bool, not, slice_index, Option, Some, None, Result, Ok, Err}
use Rattle.std.specs.Option.{option_and_then}
use Rattle.std.specs.Str.{bytes_eq}
use Rattle.tag_memory.specs.Storage.{most_memory_words}
use Rattle.text_parts.specs.Numbers.{up_to}
use Rattle.text_parts.specs.Pieces.{text_before, text_after}
use Rattle.text_parts.specs.Reading.{number_of_text}
use Rattle.asm_line.specs.Text.{is_first}
use Rattle.source_places.specs.SourceLabels.{LabelValue}
use Rattle.source_places.specs.DataNames.{DataNameValue, is_called}
use Rattle.expectation_files.specs.Values.{count_named}
use Rattle.expectation_files.specs.declared.faults.LineFaultKind.{LineFaultKind}
use Rattle.expectation_files.specs.declared.faults.LineFaultKind.TheVariants as fault
use Rattle.expectation_files.specs.declared.addresses.AddressRange.{AddressRange}
use Rattle.expectation_files.specs.declared.addresses.PlaceRange.{PlaceRange}

-- the names that a program's text gives: those of its data words, and its labels
pub record Names : Type 0 where
  pub word_names : List DataNameValue
  pub labels : List LabelValue

-- what a text says, or this fault where it says nothing
abbrev pub said_or : {A : Type 0} → LineFaultKind → Option A → Result A LineFaultKind
said_or kind None = Err kind
said_or kind (Some a) = Ok a

-- a name with a number behind it: name+N, where the name alone is name+0

abbrev pub name_before : List ℕ → List ℕ
name_before text = text_before 43 text

abbrev pub number_after : Option (List ℕ) → Option ℕ
number_after None = Some 0
number_after (Some digits) = count_named digits

-- Data words.

-- what stands between brackets; all of a text that is not in brackets
unfoldable pub unbracketed : List ℕ → List ℕ
unbracketed text =
    if nat_lt 1 (length text) && (slice_index text 0 == 91 && slice_index text (length text - 1) == 93)
    then take (length text - 1 - 1) (drop 1 text) else text

abbrev pub multiple_of_8 : ℕ → Option ℕ
multiple_of_8 n = if n % 8 == 0 then Some n else None

-- the byte address of a word that some machine has
abbrev pub address_of_word : ℕ → Option ℕ
address_of_word word = if nat_lt word most_memory_words then Some (8 * word) else None

-- the byte address of the word that is so many words behind the first of a name's line, where the line has it
abbrev pub address_after : Option DataNameValue → Option ℕ → Option ℕ
address_after None k = None
address_after (Some n) None = None
address_after (Some n) (Some k) = if nat_lt k n.count then address_of_word (n.first + k) else None

-- the byte address of the word of a name
abbrev pub address_by_name : List DataNameValue → List ℕ → Option ℕ
address_by_name names text =
    address_after (find (is_called (name_before text)) names) (number_after (text_after 43 text))

-- what is wrong with a text that is neither a number nor the name of a word: it begins as a name, or is no address
abbrev pub no_address : List ℕ → LineFaultKind
no_address text = if nat_lt 0 (length text) && is_first (slice_index text 0) then fault.Name else fault.Address

abbrev pub address_by : List DataNameValue → List ℕ → Option ℕ → Result ℕ LineFaultKind
address_by names text (Some n) =
    said_or fault.Address (option_and_then multiple_of_8 (up_to (8 * most_memory_words - 1) n))
address_by names text None = said_or (no_address text) (address_by_name names text)

-- the byte address that a text says, perhaps in brackets: a number that some machine has a word at, or a word's name
unfoldable pub address_said : Names → List ℕ → Result ℕ LineFaultKind
address_said names text =
    let inner = unbracketed text in address_by names.word_names inner (number_of_text inner)

-- Ranges of data words: the first address, two points, and the last one, which is not less.

abbrev pub RangeSaid : Type 0
RangeSaid = Result AddressRange LineFaultKind

abbrev pub range_between : Result ℕ LineFaultKind → Result ℕ LineFaultKind → RangeSaid
range_between (Err kind) last = Err kind
range_between (Ok first) (Err kind) = Err kind
range_between (Ok first) (Ok last) =
    if nat_le first last then Ok (record { first = first; last = last }) else Err fault.Range

-- what stands behind a point that no other one follows
abbrev pub after_point : List ℕ → Option (List ℕ)
after_point text = if slice_index text 0 == 46 && not (slice_index text 1 == 46) then Some (drop 1 text) else None

-- what stands behind the two points of a range
abbrev pub behind_points : List ℕ → Option (List ℕ)
behind_points text = option_and_then after_point (text_after 46 text)

abbrev pub range_of_texts : Names → List ℕ → Option (List ℕ) → RangeSaid
range_of_texts names first None = Err fault.Points
range_of_texts names first (Some last) = range_between (address_said names first) (address_said names last)

unfoldable pub range_said : Names → List ℕ → RangeSaid
range_said names text = range_of_texts names (text_before 46 text) (behind_points text)

-- Program words: a label's address, or one so many words behind it, or a number.

-- one of so many program words, whose number has 32 bits
abbrev pub program_word : ℕ → ℕ → Option ℕ
program_word count n = if nat_lt n count && nat_lt n (2 ^ 32) then Some n else None

abbrev pub word_behind : ℕ → Option LabelValue → Option ℕ → Option ℕ
word_behind count None k = None
word_behind count (Some l) None = None
word_behind count (Some l) (Some k) = program_word count (l.place.value + k)

abbrev pub has_label : List ℕ → LabelValue → Bool
has_label name l = bytes_eq l.name name

abbrev pub place_by : Names → ℕ → List ℕ → Option ℕ → Option ℕ
place_by names count text (Some n) = program_word count n
place_by names count text None =
    word_behind count (find (has_label (name_before text)) names.labels) (number_after (text_after 43 text))

-- the program word that a text says, of so many
unfoldable pub place_said : Names → ℕ → List ℕ → Result ℕ LineFaultKind
place_said names count text = said_or fault.Place (place_by names count text (count_named text))

abbrev pub PlacesSaid : Type 0
PlacesSaid = Result PlaceRange LineFaultKind

abbrev pub places_between : Result ℕ LineFaultKind → Result ℕ LineFaultKind → PlacesSaid
places_between (Err kind) last = Err kind
places_between (Ok first) (Err kind) = Err kind
places_between (Ok first) (Ok last) =
    if nat_le first last then Ok (record { first = first; last = last }) else Err fault.PlaceRange

abbrev pub places_of_texts : Names → ℕ → List ℕ → Option (List ℕ) → PlacesSaid
places_of_texts names count first None = Err fault.Points
places_of_texts names count first (Some last) = places_between (place_said names count first) (place_said names count last)

-- the program words from one to another, which is not less
unfoldable pub places_said : Names → ℕ → List ℕ → PlacesSaid
places_said names count text = places_of_texts names count (text_before 46 text) (behind_points text)
