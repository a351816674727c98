-- The rows of a merged table, and the submissions that it lacks.
use Rattle.std.specs.Prelude.{ℕ, not, List, map, filter, Option, None, is_some, slice_index_or}
use Rattle.std.specs.Borrow.{Bor}
use Rattle.std.specs.List.{filter_map, list_any}
use Rattle.std.specs.Option.{option_map}
use Rattle.class_results.specs.OneCall.{Placed, placed_from, has_place}
use Rattle.class_results.specs.declared.merged_tables.MergedRow.{MergedRow}
use Rattle.class_results.specs.declared.parts.ClassPart.{ClassPart}

-- the path of a submission
abbrev pub Path : Type 0
Path = Bor (List ℕ)

-- the kept result that was found of the submission of a place
abbrev pub found_at : List (Option ℕ) → ℕ → Option ℕ
found_at found place = slice_index_or found place None

-- the row of a submission, if a kept result of it was found
abbrev pub row_at : List (Option ℕ) → Placed Path → Option MergedRow
row_at found s = option_map (λ k. record { submission = s.submission; kept = k }) (found_at found s.place)

-- The rows of the submissions from a place on of which one was found, in their order.
abbrev pub rows_from : List (Option ℕ) → ℕ → List Path → List MergedRow
rows_from found k xs = filter_map (row_at found) (placed_from k xs)

abbrev pub rows_by : List (Option ℕ) → List Path → List MergedRow
rows_by found class = rows_from found 0 class

-- The others.
abbrev pub missing_from : List (Option ℕ) → ℕ → List Path → List Path
missing_from found k xs = map (λ s. s.submission) (filter (λ s. not (is_some (found_at found s.place))) (placed_from k xs))

abbrev pub missing_by : List (Option ℕ) → List Path → List Path
missing_by found class = missing_from found 0 class

-- the submissions of a class that none of some parts has
abbrev pub in_no_part : List ClassPart → List Path → List Path
in_no_part parts class =
    map (λ s. s.submission) (filter (λ s. not (list_any (λ part. has_place part s.place) parts)) (placed_from 0 class))
