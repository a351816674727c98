-- What a search among the schedules of a program comes to.
use Rattle.std.specs.Prelude.{◌≡◌, ◌≤◌, ◌↔◌, ℕ, max, Bool, not, ◌||◌, IsTrue, IsFalse, Option, Some, None, is_some, IfSome, [], map}
use Rattle.std.specs.List.{position}
use Rattle.image_file.specs.ImageValue.{ImageValue}
use Rattle.space_ends.specs.ScheduleSpace.Spaces.{SpaceValue, count, IsComplete, IsShortest, StandAlone}
use Rattle.space_ends.specs.ScheduleSpace.Followed.{AllFollowed, HasAllEnds, HasShortestEnds, TellsWhetherAllEnd}
use Rattle.space_ends.specs.ScheduleSpace.Answers.{IsFull}
use Rattle.space_ends.specs.BusyStreams.BusySpaces.{HasAllWorlds}
use Rattle.space_ends.specs.ScheduleVerdicts.NamedRegisters.{AreNamed}
use Rattle.space_ends.specs.ScheduleVerdicts.RightSpaces.{IsFollowedForClaims}
use Rattle.space_ends.specs.ScheduleVerdicts.ShownClaims.{AreShown, IsUnshownAt, IsRightThroughout}
use Rattle.program_rules.specs.Keeping.{is_kept}
use Rattle.expectation_files.specs.Judged.{IsJudged}
use Rattle.expectation_files.specs.declared.requirements.Requirements.{Requirements}
use Rattle.space_ends.specs.BrokenClaims.{value_of, HasBrokenEnds}
use Rattle.space_ends.specs.EndsOfSpace.{ends_in, AreEndsOf}
use Rattle.space_ends.specs.Spinning.{spinning_in, AreSpinning}
use Rattle.space_ends.specs.Shown.{AreShownSo}
use Rattle.space_ends.specs.FirstBroken.{AreBrokenSo}
use Rattle.program_searches.specs.Loops.{ListsLoops}
use Rattle.program_searches.specs.Kept.{asks_conditions, are_kept, SaysWhatIsKept}
use Rattle.program_searches.specs.Waits.{is_unstarved, SaysWhoWaits}
use Rattle.program_searches.specs.declared.bounds.SearchBound.{SearchBound}
use Rattle.program_searches.specs.declared.bounds.SearchBound.TheVariants as bound
use Rattle.program_searches.specs.declared.explored.Explored.{Explored}
use Rattle.program_searches.specs.declared.searches.ProgramSearch.{ProgramSearch}

-- whether all worlds are looked for: where that is asked for, or no stream is to loop alone, or none to wait forever, or a
-- condition on runs is required
abbrev pub takes_all : ProgramSearch → Bool
takes_all asked =
    asked.is_plain || is_some asked.required.now.never_busy
    || (is_some asked.required.now.never_starved || asks_conditions asked.required.now)

-- how many worlds are looked for at most, one at least
abbrev pub most_worlds : ProgramSearch → ℕ
most_worlds asked = max asked.bounds.worlds 1

-- What a space has whose search for ends was complete, by what is required of the program.
pub record HasNeededWorlds (required : Requirements) (v : SpaceValue) : Type 0 where
  -- For each world at which a schedule ends one of the space stands.
  pub ends : HasAllEnds v
  -- No schedule to such an end is shorter than the one that the space gives.
  pub shortest : HasShortestEnds v
  -- If an end can be reached from each of its worlds, one can be wherever a schedule leads.
  pub tells : TellsWhetherAllEnd v
  -- Each step from its worlds is taken, or one that can be taken before all others.
  pub followed : AllFollowed v
  -- Each register is named at which an expectation looks.
  pub named : AreNamed required.ends.items v.live.names
  -- Its worlds show whether the claims hold.
  pub claimed : IsFollowedForClaims v required.claims.items

-- What is known of a space by what ended its search.
pub record IsSearched (asked : ProgramSearch) (v : SpaceValue) (ended : Option SearchBound) : Type 0 where
  -- A search of all worlds that nothing ended before has each to which a schedule leads, once, with all steps between them.
  pub worlds : ended ≡ None → IsTrue (takes_all asked) → HasAllWorlds v
  -- Another one that nothing ended before has the worlds that the ends and the claims need.
  pub needed : ended ≡ None → IsFalse (takes_all asked) → HasNeededWorlds asked.required.now v
  -- Of a search of all worlds each stands for itself alone, whatever ended it.
  pub alone : IsTrue (takes_all asked) → StandAlone v
  -- No schedule to a world of it is shorter than the one that the space gives.
  pub shortest : IsTrue (takes_all asked) → IsShortest v
  -- There are no more worlds than were asked for.
  pub within : count v ≤ most_worlds asked
  -- Their number ended the search only if there are as many, and a schedule leads to a world for which none of them stands.
  pub full : ended ≡ Some bound.States → IsFull v (most_worlds asked)
  -- Then a search of all worlds has not all.
  pub missing : ended ≡ Some bound.States → IsTrue (takes_all asked) → ¬ (IsComplete v)

-- It is right exactly if it is complete, something is required, the program keeps the rules, all that is required is so of
-- every schedule, it is said that nobody can wait forever, if that is required, and that all runs keep each condition.
abbrev pub SaysWhetherRight : ImageValue → ProgramSearch → Explored → Type 0
SaysWhetherRight image asked e =
    IsTrue e.is_right
    ↔ (IsTrue e.is_complete × IsJudged image asked.required.now
    × IsRightThroughout image asked.begin.now asked.required.now.ends.items asked.required.now.claims.items
    (is_some asked.required.now.never_busy)
    × IsTrue (is_unstarved asked.required.now e.waits)
    × IsTrue (are_kept asked.required.now e.kept))

-- What a search among the schedules of a program came to.
pub record IsExplored (i : ImageValue) (asked : ProgramSearch) (e : Explored) : Type 0 where
  -- The space is one of the image.
  pub image : e.space.image ≡ i
  -- All its schedules begin with the steps that were given.
  pub begin : e.space.begin ≡ asked.begin.now
  -- It is said whether all worlds were looked for.
  pub all_worlds : e.is_of_all_worlds ≡ takes_all asked
  -- The space is that of the search, by what is said to have ended it.
  pub searched : IsSearched asked e.space e.bound
  -- The search is complete exactly if nothing is said to have ended it before.
  pub bound : (e.bound ≡ None) ↔ IsTrue e.is_complete
  -- A complete one has all ends: for each world at which a schedule ends one of the space stands.
  pub complete : IsTrue e.is_complete → HasAllEnds e.space
  -- Each place of the space at which a run ends is listed once, with what it misses and a shortest schedule of its line.
  pub ends : AreEndsOf e.space asked.required.now.ends.items (ends_in e.ends.items)
  -- Of a complete search those are listed that can reach no end.
  pub spinning : IsTrue e.is_complete → AreSpinning e.space (spinning_in e.ends.items)
  -- Of another one none is.
  pub unknown : IsFalse e.is_complete → spinning_in e.ends.items ≡ []
  -- What is said of each is so: an end shows what each of its worlds does; a set that spins shows the traps of its first
  -- world, and misses the first expectation that one of its worlds does.
  pub listed : AreShownSo e.space asked.required.now.ends.items e.ends.items
  -- The last of its ends are those of the claims that are broken, with the worlds that break them.
  pub broken : HasBrokenEnds e.space asked.required.now.claims.items (map value_of e.ends.items)
  -- Each end names the first claim that is broken on the way of its schedule, or none if all hold there.
  pub first_broken : AreBrokenSo e.space asked.required.now.claims.items e.ends.items
  -- If no stream is to loop alone, the first one that does is listed.
  pub loops : ListsLoops asked e
  -- The rule that is reported is the first one that the program breaks.
  pub rule : e.broken_rule ≡ position (λ r. not (is_kept i r)) asked.required.now.rules.items
  -- The claim that is reported as unshown is shown by no world of the space, and each earlier one is shown.
  pub unshown : IfSome e.unshown (λ k. IsUnshownAt e.space asked.required.now.claims.items k)
  -- If none is reported, each is shown.
  pub shown : e.unshown ≡ None → AreShown e.space.image e.space.begin asked.required.now.claims.items
  -- What is said of who can wait forever is so.
  pub waits : SaysWhoWaits i asked e
  -- What is said of conditions on runs is so.
  pub conditions : SaysWhatIsKept i asked e
  -- It is right exactly if all that is required is so.
  pub right : SaysWhetherRight i asked e
