use Rattle.std.specs.Prelude.{◌≡◌, ℕ, ◌+◌, ◌%◌}
use Rattle.class_results.specs.declared.parts.ClassPart.{ClassPart}

-- The one part of so many that the submission of a place has, from 1: the submissions are dealt out in turn.
abbrev pub part_of_place : ℕ → ℕ → ℕ
part_of_place count place = place % count + 1

-- Whether a part has the submission of a place, from 0, of the sorted list.
abbrev pub IsInPart : ClassPart → ℕ → Type 0
IsInPart part place = part.number ≡ part_of_place part.count place
