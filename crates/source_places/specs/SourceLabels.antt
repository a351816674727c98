-- The labels of a source text, each where it stands first.
use Rattle.std.specs.Prelude.{ℕ, ◌+◌, ◌==◌, if◌then◌else◌, List, [], ◌∷◌, ◌++◌, Option, Some, None}
use Rattle.asm_line.specs.Lines.{Line, lines, place}
use Rattle.asm_line.specs.Operands.{Places}
use Rattle.asm_line.specs.declared.place.Place.{Place}

-- a label, and its place
pub record LabelValue : Type 0 where
  pub name : List ℕ
  pub place : Place

-- a label on line k, where that is the line of its place
abbrev pub label_on : ℕ → List ℕ → Option Place → List LabelValue
label_on k name None = []
label_on k name (Some p) = if p.line == k then record { name = name; place = p } ∷ [] else []

abbrev pub label_of_line : Places → ℕ → Option (List ℕ) → List LabelValue
label_of_line places k None = []
label_of_line places k (Some name) = label_on k name (places name)

-- of lines of which the first is line k, the labels that have their places there
abbrev pub labels_from : Places → ℕ → List Line → List LabelValue
labels_from places k [] = []
labels_from places k (l ∷ ls) = label_of_line places k l.label ++ labels_from places (k + 1) ls

-- the labels of a text in the order of their lines, each with the assembler's place
abbrev pub labels_of : List ℕ → List LabelValue
labels_of text = let ls = lines text in labels_from (place ls) 0 ls
