-- What a search says of who can wait forever.
use Rattle.std.specs.Prelude.{◌≡◌, not, ◌||◌, Bool, true, false, IsTrue, IsSome, IfSome, List, [], ◌∷◌, Option, Some, None, is_some}
use Rattle.image_file.specs.ImageValue.{ImageValue}
use Rattle.processor.specs.declared.steps.Step.{Step}
use Rattle.space_ends.specs.ScheduleSpace.Spaces.{count}
use Rattle.endless_waits.specs.StarvingStreams.Starving.{NobodyWaits}
use Rattle.endless_waits.specs.StarvingStreamsTypes.Starving.{Starving}
use Rattle.endless_waits.specs.Waits.{IsSoOfWaits, is_nobody, shown_in, why_not, why_not_in}
use Rattle.endless_waits.specs.declared.extents.SearchExtent.{SearchExtent}
use Rattle.endless_waits.specs.declared.extents.SearchExtent.TheVariants as extent
use Rattle.endless_waits.specs.declared.waits.EndlessWaits.{EndlessWaits}
use Rattle.endless_waits.specs.declared.waits.EndlessWaits.TheVariants as waits
use Rattle.expectation_files.specs.declared.requirements.Requirements.{Requirements}
use Rattle.program_searches.specs.declared.explored.Explored.{Explored}
use Rattle.program_searches.specs.declared.searches.ProgramSearch.{ProgramSearch}
use Rattle.program_searches.specs.declared.unkept.UnkeptWaits.{UnkeptWaits}
use Rattle.program_searches.specs.declared.unkept.UnkeptWaits.TheVariants as unkept

-- how far a search went that looked for all worlds or not, and is complete or not
abbrev pub extent_by : Bool → Bool → SearchExtent
extent_by true true = extent.AllStates
extent_by true false = extent.Bounded
extent_by false true = extent.Reduced
extent_by false false = extent.Reduced

abbrev pub extent_of : Explored → SearchExtent
extent_of e = extent_by e.is_of_all_worlds e.is_complete

-- whether it was asked who can wait forever, and nobody can
abbrev pub says_nobody : Option EndlessWaits → Bool
says_nobody None = false
says_nobody (Some w) = is_nobody w

-- the streams that are shown to wait forever
abbrev pub starving_in : Option EndlessWaits → List Starving
starving_in None = []
starving_in (Some w) = shown_in w

-- whether it is said where it is required that nobody can
abbrev pub is_unstarved : Requirements → Option EndlessWaits → Bool
is_unstarved required w = not (is_some required.never_starved) || says_nobody w

-- the first stream that is shown to wait forever, or else the first that is left undecided
abbrev pub first_waiting : List Starving → List Step → Option UnkeptWaits
first_waiting (x ∷ xs) undecided = Some (unkept.Starved x.stream)
first_waiting [] (who ∷ more) = Some (unkept.Undecided who)
first_waiting [] [] = None

-- why it is not known that nobody can wait forever; None if it is, or was not asked
abbrev pub unkept_waits : Option EndlessWaits → Option UnkeptWaits
unkept_waits None = None
unkept_waits (Some (waits.Answered r)) = first_waiting r.starving.items r.undecided.items
unkept_waits (Some (waits.Unanswered u)) = Some (unkept.Unanswered u)

-- What a search of a program says of who can wait forever.
pub record SaysWhoWaits (i : ImageValue) (asked : ProgramSearch) (e : Explored) : Type 0 where
  -- It is asked exactly if it is required that nobody can.
  pub required : is_some e.waits ≡ is_some asked.required.now.never_starved
  -- If it is not answered, that is by how far the search went.
  pub why : IfSome e.waits (λ w. why_not_in w ≡ why_not (extent_of e) (count e.space))
  -- What is said is so of the program.
  pub so : IfSome e.waits (IsSoOfWaits i asked.begin.now asked.required.now.rests.items)
  -- If the search is right, and it is required that nobody can wait forever, nobody can.
  pub right : IsTrue e.is_right → IsSome asked.required.now.never_starved → NobodyWaits i asked.begin.now asked.required.now.rests.items
