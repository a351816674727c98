-- When a submission is right by a case.
use Rattle.std.specs.Prelude.{◌≡◌, ◌<◌, ℕ, List, [], length, Option, Some, None, Ok, is_some, IsNone, IsSome}
use Rattle.image_file.specs.ImageValue.{ImageValue}
use Rattle.lab_requests.specs.declared.requests.Bounds.{Bounds}
use Rattle.expectation_files.specs.Judged.{IsJudged}
use Rattle.expectation_files.specs.Seen.{requirements_seen}
use Rattle.expectation_files.specs.declared.requirements.Requirements.{Requirements}
use Rattle.program_searches.specs.RunAnswers.Kept.{AllKept}
use Rattle.program_searches.specs.StarvingStreams.Starving.{NobodyWaits}
use Rattle.seed_outcomes.specs.ScheduleVerdicts.ShownClaims.{IsRightThroughout}
use Rattle.seed_outcomes.specs.SeedVerdicts.Seeds.{AreJudged}
use Rattle.seed_outcomes.specs.SeedVerdicts.ShownBySeeds.{AreShownBySeeds}
use Rattle.seed_outcomes.specs.SeedVerdictsTypes.Seeds.{Seeds}
use Rattle.seed_work.specs.SeedWork.{IsWorkJudged}
use Rattle.judgements.specs.Cases.{program_by, said_by, seeds_of, SpeaksOfGivenIn}
use Rattle.judgements.specs.declared.cases.Case.{Case}
use Rattle.judgements.specs.declared.cases.AskedJudging.{AskedJudging}

-- Every schedule of a program is right; nobody can wait forever, if that is required; and all runs keep each condition that
-- is required.
pub record IsRightBySchedules (image : ImageValue) (required : Requirements) : Type 0 where
  pub right : IsRightThroughout image [] required.ends.items required.claims.items (is_some required.never_busy)
  pub unstarved : IsSome required.never_starved → NobodyWaits image [] required.rests.items
  pub kept : AllKept image [] required.rests.items required.run_conditions.items

-- The run of each seed is right, the runs show each claim that has to hold of one world at least, and it is required neither
-- that no stream loops alone, nor that none can wait forever, nor that all runs keep some condition, which seeds do not decide.
pub record IsRightBySeeds (image : ImageValue) (required : Requirements) (seeds : Seeds) : Type 0 where
  pub judged : AreJudged image required.ends.items required.claims.items seeds None
  pub shown : AreShownBySeeds image required.claims.items seeds
  pub unasked : IsNone required.never_busy
  pub unasked_waits : IsNone required.never_starved
  pub unasked_conditions : required.run_conditions.items ≡ []

-- The run of each seed meets the lines about who does the work, where there are some. A search does not decide these: it
-- takes states for one that were come to by the work of different streams.
abbrev pub IsWorkDone : ImageValue → Requirements → Seeds → Type 0
IsWorkDone image required seeds = 0 < length required.work.items → IsWorkJudged image required.work.items seeds None

-- a program is right as it was asked: by every schedule, or by seeds
abbrev pub IsRightAsAsked : Option Bounds → Seeds → ImageValue → Requirements → Type 0
IsRightAsAsked (Some bounds) seeds image required = IsRightBySchedules image required
IsRightAsAsked None seeds image required = IsRightBySeeds image required seeds

-- A submission of this image and text is right by a case: what the case says of the program that it makes of the submission
-- is something, and of no other words than the case gives, that program keeps the rules, it is right as it was asked, and the
-- run of each seed meets the lines about who does the work.
pub record IsRightCase (asked : AskedJudging) (image : ImageValue) (text : List ℕ) (case : Case) : Type 0 where
  pub required : Requirements
  pub said : said_by case (program_by image text case) text ≡ Ok (requirements_seen required)
  pub given : SpeaksOfGivenIn (program_by image text case) text case case.cells required
  pub judged : IsJudged (program_by image text case) required
  pub right : IsRightAsAsked asked.explored (seeds_of asked) (program_by image text case) required
  pub work : IsWorkDone (program_by image text case) required (seeds_of asked)
