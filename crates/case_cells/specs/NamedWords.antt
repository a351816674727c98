-- Where the words that a case names stand in a submission, and the cells that the case makes of the submission's.
use Rattle.std.specs.Prelude.{ℕ, ◌+◌, ◌-◌, ◌==◌, nat_lt, nat_le, Bool, ◌&&◌, ◌||◌, if◌then◌else◌, List, [], ◌∷◌, ◌++◌}
use Rattle.std.specs.Prelude.{length, drop, find, filter_map, slice_get, Option, Some, None, unwrap_or, Vec}
use Rattle.std.specs.List.{position_from}
use Rattle.std.specs.Option.{option_map, is_none}
use Rattle.std.specs.Global.{Global}
use Rattle.tag_memory.specs.Cell.{Cell}
use Rattle.source_places.specs.DataLines.{data_lines}
use Rattle.source_places.specs.DataNames.{DataNameValue, is_called, data_names}
use Rattle.case_cells.specs.declared.named_words.WordPlaces.{WordPlaces}

-- the words of a name of a case, at the submission's words of that name, where the submission has as many of them
abbrev pub places_of : DataNameValue → Option DataNameValue → Option WordPlaces
places_of given None = None
places_of given (Some own) =
    if nat_le given.count own.count
    then Some (record { given = given.first; own = own.first; count = given.count }) else None

-- where a submission with these names has the words of a name of a case
abbrev pub place_in : List DataNameValue → DataNameValue → Option WordPlaces
place_in own name = places_of name (find (is_called name.name) own)

-- the places of all names of a case that the submission has
abbrev pub named_places : List DataNameValue → List DataNameValue → List WordPlaces
named_places own given = filter_map (place_in own) given

-- what the code has of places
abbrev pub places_seen : Option (Vec WordPlaces Global) → Option (List WordPlaces)
places_seen places = option_map (λ v. v.items) places

-- these places of the words of so many lines, if each line has one, and there is a line
abbrev pub all_or_none : List WordPlaces → ℕ → Option (List WordPlaces)
all_or_none places lines = if nat_lt 0 (length places) && length places == lines then Some places else None

-- The places of a case's words by their names, where each line of the case has a name, and the submission has the words of
-- each. (Each line has one name at most.)
abbrev pub places_by_name : List ℕ → List ℕ → Option (List WordPlaces)
places_by_name given own =
    all_or_none (named_places (data_names own) (data_names given)) (length (data_lines given))

-- the place, from this number on, of the first of some names of a case that a submission with these names lacks
abbrev pub first_lacking : List DataNameValue → ℕ → List DataNameValue → Option ℕ
first_lacking own k given = position_from (λ n. is_none (place_in own n)) k given

-- Whether a submission that has the words of some names of a case, at these places, is asked for the words of each name: where
-- each of the case's lines has a name (no line has more than one), and all are asked for, or the submission has one of them.
abbrev pub is_asked : Bool → ℕ → ℕ → List WordPlaces → Bool
is_asked all names lines places = names == lines && (all || nat_lt 0 (length places))

abbrev pub lacking_if : Bool → List DataNameValue → List DataNameValue → Option ℕ
lacking_if asked own given = if asked then first_lacking own 0 given else None

-- The first name of a case that the submission lacks, if each line of the case has a name, and the submission has another
-- of these names, or all of them are asked for.
abbrev pub name_lacking : Bool → List ℕ → List ℕ → Option ℕ
name_lacking all given own =
    let places = named_places (data_names own) (data_names given) in
    let asked = is_asked all (length (data_names given)) (length (data_lines given)) places in
    lacking_if asked (data_names own) (data_names given)

-- The cells.

-- whether this word of a submission is one of some that a case gives
abbrev pub has_word : ℕ → WordPlaces → Bool
has_word word p = nat_le p.own word && nat_lt (word - p.own) p.count

-- the case's cell for a word of a submission that is among these words of the case; else the submission's own
abbrev pub cell_of_places : List Cell → ℕ → Cell → Option WordPlaces → Cell
cell_of_places given word own None = own
cell_of_places given word own (Some p) = unwrap_or (slice_get given (p.given + (word - p.own))) own

-- each word of a submission from this one on: the case's cell of its name, or else its own
abbrev pub cells_by_name : List WordPlaces → List Cell → ℕ → List Cell → List Cell
cells_by_name places given word [] = []
cells_by_name places given word (own ∷ later) =
    cell_of_places given word own (find (has_word word) places) ∷ cells_by_name places given (word + 1) later

-- the case's cells, and behind them what the submission has more
abbrev pub cells_by_position : List Cell → List Cell → List Cell
cells_by_position given own = given ++ drop (length given) own

-- the cells that a case makes of a submission's: by names, where its words stand there by names, and else by position
abbrev pub given_cells : Option (List WordPlaces) → List Cell → List Cell → List Cell
given_cells None given own = cells_by_position given own
given_cells (Some places) given own = cells_by_name places given 0 own
