-- What a search says of conditions on runs.
use Rattle.std.specs.Prelude.{◌≡◌, ◌==◌, not, ◌||◌, ℕ, Bool, true, false, IsTrue, IfSome, length, Option, Some, None, is_some}
use Rattle.std.specs.List.{position}
use Rattle.image_file.specs.ImageValue.{ImageValue}
use Rattle.space_ends.specs.ScheduleSpace.Spaces.{count}
use Rattle.endless_waits.specs.Waits.{why_not}
use Rattle.endless_waits.specs.Kept.{why_not_kept, are_all_kept, AllKept, IsSoOfKept}
use Rattle.endless_waits.specs.RunAnswersTypes.RunAnswer.{RunAnswer}
use Rattle.endless_waits.specs.RunAnswersTypes.RunAnswer.TheVariants as answer
use Rattle.endless_waits.specs.declared.kept.KeptConditions.{KeptConditions}
use Rattle.endless_waits.specs.declared.kept.KeptConditions.TheVariants as kept
use Rattle.expectation_files.specs.declared.requirements.Requirements.{Requirements}
use Rattle.program_searches.specs.Waits.{extent_of}
use Rattle.program_searches.specs.declared.explored.Explored.{Explored}
use Rattle.program_searches.specs.declared.searches.ProgramSearch.{ProgramSearch}
use Rattle.program_searches.specs.declared.unkept.UnkeptConditions.{UnkeptConditions}
use Rattle.program_searches.specs.declared.unkept.UnkeptConditions.TheVariants as unkept

-- whether a condition on runs is required
abbrev pub asks_conditions : Requirements → Bool
asks_conditions required = not (length required.run_conditions.items == 0)

-- whether it was asked, and all conditions are kept
abbrev pub says_all_kept : Option KeptConditions → Bool
says_all_kept None = false
says_all_kept (Some l) = are_all_kept l

-- whether it is said where it is required
abbrev pub are_kept : Requirements → Option KeptConditions → Bool
are_kept required l = length required.run_conditions.items == 0 || says_all_kept l

abbrev pub is_evaded : RunAnswer → Bool
is_evaded (answer.Evaded r) = true
is_evaded answer.Kept = false
is_evaded answer.Undecided = false

abbrev pub is_undecided : RunAnswer → Bool
is_undecided (answer.Evaded r) = false
is_undecided answer.Kept = false
is_undecided answer.Undecided = true

-- the first that a run evades, or else the first that is not decided
abbrev pub first_unkept : Option ℕ → Option ℕ → Option UnkeptConditions
first_unkept (Some k) undecided = Some (unkept.Evaded k)
first_unkept None (Some k) = Some (unkept.Undecided k)
first_unkept None None = None

-- why it is not known that all are kept; None if it is, or was not asked
abbrev pub unkept_conditions : Option KeptConditions → Option UnkeptConditions
unkept_conditions None = None
unkept_conditions (Some (kept.Answered answers)) =
    first_unkept (position is_evaded answers.items) (position is_undecided answers.items)
unkept_conditions (Some (kept.Unanswered u)) = Some (unkept.Unanswered u)

-- What a search of a program says of conditions on its runs.
pub record SaysWhatIsKept (i : ImageValue) (asked : ProgramSearch) (e : Explored) : Type 0 where
  -- It is asked exactly if some condition is required.
  pub required : is_some e.kept ≡ asks_conditions asked.required.now
  -- If it is not answered, that is by how far the search went.
  pub why : IfSome e.kept (λ l. why_not_kept l ≡ why_not (extent_of e) (count e.space))
  -- What is said is so of the program.
  pub so : IfSome e.kept (IsSoOfKept i asked.begin.now asked.required.now.rests.items asked.required.now.run_conditions.items)
  -- If the search is right, all runs keep each condition.
  pub right : IsTrue e.is_right → AllKept i asked.begin.now asked.required.now.rests.items asked.required.now.run_conditions.items
