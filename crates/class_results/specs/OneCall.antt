-- What one call says of a class, what the calls for its parts keep, and what a merge makes of that.
use Rattle.std.specs.Prelude.{◌≡◌, ◌↔◌, ◌<◌, ◌≤◌, ◌+◌, ◌==◌, ◌&&◌, nat_lt, ℕ, Bool, true, if◌then◌else◌}
use Rattle.std.specs.Prelude.{List, [], ◌∷◌, length, map, filter, Contains, slice_get, slice_index_or, Option, Some, None}
use Rattle.std.specs.List.{list_any}
use Rattle.std.specs.Option.{option_and_then, option_map}
use Rattle.class_results.specs.Merging.{IsFoundAt}
use Rattle.class_results.specs.Parts.{part_of_place}
use Rattle.class_results.specs.declared.checksums.ResultBasis.{ResultBasis}
use Rattle.class_results.specs.declared.merging.KeptPlace.{KeptPlace}
use Rattle.class_results.specs.declared.parts.ClassPart.{ClassPart}

-- What is said of a submission: by what it was judged, and the checksum of its row.
pub record Judged : Type 0 where
  pub basis : ResultBasis
  pub row : List ℕ

-- One call says something of each submission, in the order of the list.
abbrev pub one_call : {A : Type 0} → (A → Judged) → List A → List Judged
one_call judge class = map judge class

-- A submission, and its place in the list of the class, from 0.
pub record Placed (A : Type 0) : Type 0 where
  pub place : ℕ
  pub submission : A

-- the submissions of a list with their places, the first of which is this one
abbrev pub placed_from : {A : Type 0} → ℕ → List A → List (Placed A)
placed_from k [] = []
placed_from k (x ∷ xs) = record { place = k; submission = x } ∷ placed_from (k + 1) xs

-- whether a part has the submission of a place
abbrev pub has_place : ClassPart → ℕ → Bool
has_place part place = nat_lt 0 part.count && (part.number == part_of_place part.count place)

-- whether a call for a part judges the submission of a place; one for no part judges each
abbrev pub judges_place : Option ClassPart → ℕ → Bool
judges_place None place = true
judges_place (Some part) place = has_place part place

-- the submissions that a call judges, in the order of the list, from a place on
abbrev pub judged_from : {A : Type 0} → Option ClassPart → ℕ → List A → List (Placed A)
judged_from part k xs = filter (λ s. judges_place part s.place) (placed_from k xs)

abbrev pub judged_in : {A : Type 0} → Option ClassPart → List A → List A
judged_in part class = map (λ s. s.submission) (judged_from part 0 class)

-- what is kept of the submission of a place, of which this is said
abbrev pub kept_of : ℕ → Judged → KeptPlace
kept_of place said = record { place = place; basis = said.basis; row = said.row }

-- what is said by a kept result
abbrev pub judged_of : KeptPlace → Judged
judged_of one = record { basis = one.basis; row = one.row }

-- the results that a call for a part keeps: what is said of each submission that it judges
abbrev pub results_of : {A : Type 0} → (A → Judged) → ClassPart → List A → List KeptPlace
results_of judge part class = map (λ s. kept_of s.place (judge s.submission)) (judged_from (Some part) 0 class)

-- The results are those of the calls for some parts, in any order, and also some of them more than once.
abbrev pub AreResultsOf : {A : Type 0} → (A → Judged) → List ClassPart → List A → List KeptPlace → Type 0
AreResultsOf judge parts class kept =
    (r : KeptPlace) → Contains kept r
    ↔ ((part : ClassPart) × Contains parts part × Contains (results_of judge part class) r)

-- For each submission of a class of so many, the index of a kept result of it; None exactly where none is of it.
pub record IsMerged (kept : List KeptPlace) (count : ℕ) (table : List (Option ℕ)) : Type 0 where
  pub long : length table ≡ count
  pub found : (place : ℕ) → place < count → IsFoundAt kept (length kept) place (slice_index_or table place None)

-- what a merged table says of each submission
abbrev pub merged : List KeptPlace → List (Option ℕ) → List (Option Judged)
merged kept table = map (option_and_then (λ k. option_map judged_of (slice_get kept k))) table

-- What the calls for some parts say of the submission of a place: what one call does, if one of the parts has it.
abbrev pub said_by_parts : {A : Type 0} → (A → Judged) → List ClassPart → Placed A → Option Judged
said_by_parts judge parts s =
    if list_any (λ part. has_place part s.place) parts then Some (judge s.submission) else None

-- These are all parts of so many.
abbrev pub AreAllParts : ℕ → List ClassPart → Type 0
AreAllParts count parts =
    (number : ℕ) → 0 < number → number ≤ count → Contains parts (record { number = number; count = count })
