-- The names that a source text gives words of the memory.
use Rattle.std.specs.Prelude.{ℕ, ◌==◌, Bool, true, ◌&&◌, if◌then◌else◌, List, [], ◌∷◌, ◌++◌, take, filter, count_by}
use Rattle.std.specs.Prelude.{Option, Some, None}
use Rattle.std.specs.Option.{option_map, option_or}
use Rattle.std.specs.Str.{bytes_eq}
use Rattle.text_parts.specs.Pieces.{text_after}
use Rattle.asm_line.specs.Text.{is_name}
use Rattle.asm_line.specs.Lines.{line, lines, place}
use Rattle.asm_line.specs.Operands.{Places}
use Rattle.asm_line.specs.declared.place.Place.{Place}
use Rattle.source_places.specs.DataLines.{DataLineValue, data_lines}

-- a name, the line that says it, the first data word that the line adds, and how many it adds
pub record DataNameValue : Type 0 where
  pub number : ℕ
  pub name : List ℕ
  pub first : ℕ
  pub count : ℕ

-- a text, where it is a name
abbrev pub name_in : List ℕ → Option (List ℕ)
name_in text = if is_name text then Some text else None

-- what stands before the colon, or all where there is no colon
abbrev pub words_before : Option (List ℕ) → List ℕ → List ℕ
words_before None text = text
words_before (Some front) text = front

-- the name that a comment says: it is the comment, or stands before its first colon
abbrev pub comment_name : Option (List ℕ) → Option (List ℕ)
comment_name None = None
comment_name (Some comment) = name_in (words_before (line comment).label (line comment).statement)

-- the name of a line with this label and this comment: the label, or else what the comment says
abbrev pub name_by : Option (List ℕ) → Option (List ℕ) → Option (List ℕ)
name_by None comment = comment_name comment
name_by (Some label) comment = name_in label

-- the name of a line with these bytes
abbrev pub line_name : List ℕ → Option (List ℕ)
line_name bytes = name_by (line bytes).label (text_after 59 bytes)

abbrev pub name_of : DataLineValue → Option (List ℕ) → List DataNameValue
name_of l None = []
name_of l (Some name) = record { number = l.number; name = name; first = l.first; count = l.count } ∷ []

-- the names that lines say, in the order of the lines
abbrev pub names_said : List DataLineValue → List DataNameValue
names_said [] = []
names_said (l ∷ ls) = name_of l (line_name l.bytes) ++ names_said ls

-- whether a name is said so
abbrev pub is_called : List ℕ → DataNameValue → Bool
is_called name n = bytes_eq name n.name

-- whether a label, where it stands, stands on line k
abbrev pub is_on : ℕ → Option Place → Bool
is_on k None = true
is_on k (Some p) = p.line == k

-- whether no other of these lines says the name, and no label of another line is that name
abbrev pub is_own : Places → List DataNameValue → DataNameValue → Bool
is_own places said n = count_by (is_called n.name) said == 1 && is_on n.number (places n.name)

-- how many of the names of a text are taken
abbrev pub most_names : ℕ
most_names = 4096

-- the names that the data lines of a text say
abbrev pub said_names : List ℕ → List DataNameValue
said_names text = take most_names (names_said (data_lines text))

-- of those the ones that name their words: no other line says or has them
abbrev pub data_names : List ℕ → List DataNameValue
data_names text = let said = said_names text in filter (is_own (place (lines text)) said) said

-- a name, where it is this one
abbrev pub if_called : List ℕ → DataNameValue → Option DataNameValue
if_called name n = if is_called name n then Some n else None

-- the first of some names that is this one
abbrev pub first_called : List ℕ → List DataNameValue → Option DataNameValue
first_called name [] = None
first_called name (n ∷ ns) = option_or (if_called name n) (first_called name ns)

-- the first data word of a name's line
abbrev pub first_word : Option DataNameValue → Option ℕ
first_word o = option_map (λ n. n.first) o
