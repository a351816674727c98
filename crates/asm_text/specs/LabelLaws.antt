-- Laws of labels.
use Rattle.std.specs.Prelude.{◌≡◌, ◌≢◌, ◌↔◌, ℕ, ◌<◌, List, take, slice_get, Option, Some, None}
use Rattle.std.specs.List.{count_by}
use Rattle.std.specs.Option.{option_and_then}
use Rattle.asm_line.specs.Lines.{Line, is_word, place}
use Rattle.asm_line.specs.declared.place.Place.{Place}

-- the label of line k (from 0), where there is such a line and it has one
abbrev pub label_at : List Line → ℕ → Option (List ℕ)
label_at ls k = option_and_then (λ (l : Line). l.label) (slice_get ls k)

-- The least line with this label. The label's value is the number of instruction lines before it.
pub record IsFirstPlace (ls : List Line) (name : List ℕ) (p : Place) : Type 0 where
  pub stands : label_at ls p.line ≡ Some name
  pub least : (k : ℕ) → k < p.line → label_at ls k ≢ Some name
  pub value : p.value ≡ count_by (λ (l : Line). is_word l.statement) (take p.line ls)

-- A label has the place of the least line that it stands on.
abbrev pub LabelsStandFirst : Type 0
LabelsStandFirst = (ls : List Line) (name : List ℕ) (p : Place) → place ls name ≡ Some p ↔ IsFirstPlace ls name p

-- A name has no place where it is the label of no line.
abbrev pub MissingLabels : Type 0
MissingLabels = (ls : List Line) (name : List ℕ) → place ls name ≡ None ↔ ((k : ℕ) → label_at ls k ≢ Some name)
