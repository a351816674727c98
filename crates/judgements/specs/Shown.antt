-- What shows a verdict.
use Rattle.std.specs.Prelude.{◌≡◌, ◌⊎◌, ◌↔◌, ℕ, List, [], slice_get, false, Option, Some, None, Ok, Err, not, Bool, IsTrue, IsFalse, IsSome, is_some, if◌then◌else◌, ◌||◌}
use Rattle.std.specs.List.{position, list_any}
use Rattle.image_file.specs.ImageValue.{ImageValue}
use Rattle.processor.specs.declared.steps.Step.{Step}
use Rattle.machine.specs.MachineValue.{MachineValue}
use Rattle.schedule_makers.specs.Seeds.{rule_of_seed}
use Rattle.schedule_makers.specs.FairLengths.{IsFairLength}
use Rattle.schedule_makers.specs.Made.{IsMade}
use Rattle.schedule_makers.specs.declared.made.MadeEnd.{MadeEnd}
use Rattle.seed_outcomes.specs.EndStates.Judgements.{IsJudgedKind}
use Rattle.expectations.specs.Meeting.{is_met}
use Rattle.lab_requests.specs.declared.requests.Bounds.{Bounds}
use Rattle.program_rules.specs.Keeping.{is_kept}
use Rattle.expectation_files.specs.Seen.{requirements_seen}
use Rattle.expectation_files.specs.declared.faults.FileFault.TheVariants as file
use Rattle.expectation_files.specs.declared.faults.LineFault.{LineFault}
use Rattle.expectation_files.specs.declared.requirements.Requirements.{Requirements}
use Rattle.program_searches.specs.Searches.{IsExplored}
use Rattle.program_searches.specs.Kept.{asks_conditions, is_evaded}
use Rattle.program_searches.specs.RunAnswers.Answers as evaded
use Rattle.program_searches.specs.RunAnswersTypes.RunCondition.{RunCondition}
use Rattle.program_searches.specs.StarvingStreams.Reports.{IsShown}
use Rattle.program_searches.specs.StarvingStreamsTypes.Starving.{Starving}
use Rattle.program_searches.specs.Statuses.{unkept_in}
use Rattle.program_searches.specs.Waits.{starving_in}
use Rattle.program_searches.specs.declared.explored.Explored.{Explored}
use Rattle.program_searches.specs.declared.searches.ProgramSearch.{ProgramSearch}
use Rattle.seed_outcomes.specs.EndStates.EndStates.{IsEndState}
use Rattle.seed_outcomes.specs.ScheduleVerdicts.RightEnds.{AreTrapsExpected}
use Rattle.seed_outcomes.specs.SeedVerdicts.Seeds.{AreJudged, loaded}
use Rattle.seed_outcomes.specs.SeedVerdicts.ShownBySeeds.{IsUnshownBySeeds, AreShownBySeeds}
use Rattle.seed_outcomes.specs.SeedVerdictsTypes.Seeds.{Seeds}
use Rattle.seed_outcomes.specs.SpaceEndsTypes.SpaceEnd.{SpaceEnd}
use Rattle.seed_work.specs.SeedWork.{IsWorkJudged}
use Rattle.seed_work.specs.declared.missed_work.MissedWork.{MissedWork}
use Rattle.case_cells.specs.NamedWords.{name_lacking}
use Rattle.judgements.specs.Cases.{program_by, said_by, seeds_of, may_be_of_program, SpeaksOfOthersIn}
use Rattle.judgements.specs.Known.{known_by, comes_with_search, comes_with_seeds, AreSeedsKnown, HasDecided, IsKnownBySearch, has_work}
use Rattle.judgements.specs.Flaws.{kind_of_run, kind_of_work, kind_of_end, ShowNothing, IsWorstFlaw}
use Rattle.judgements.specs.Right.{IsRightCase}
use Rattle.judgements.specs.Starved.{IsFirstStarving}
use Rattle.judgements.specs.Evaded.{IsFirstEvasion, answers_in}
use Rattle.judgements.specs.declared.evaded.Evasion.{Evasion}
use Rattle.judgements.specs.Statuses.{IsAsBadAsKind, IsStatusByRuns}
use Rattle.judgements.specs.declared.cases.Case.{Case}
use Rattle.judgements.specs.declared.cases.AskedJudging.{AskedJudging}
use Rattle.judgements.specs.declared.case_judgements.CaseJudgement.{CaseJudgement}
use Rattle.judgements.specs.declared.case_judgements.Reason.{Reason}
use Rattle.judgements.specs.declared.case_judgements.Reason.TheVariants as reason
use Rattle.judgements.specs.declared.case_judgements.ShownRun.{ShownRun}
use Rattle.judgements.specs.declared.end_flaws.EndFlaw.{EndFlaw}
use Rattle.judgements.specs.declared.knowledge.Known.{Known}
use Rattle.judgements.specs.declared.verdict_kinds.VerdictKind.{VerdictKind}
use Rattle.judgements.specs.declared.verdict_kinds.VerdictKind.TheVariants as verdict

-- The run of a seed, by the schedule of at most so many steps that its rule makes, ends as it is shown.
pub record EndsAsShown (image : ImageValue) (required : Requirements) (most : ℕ) (run : ShownRun) : Type 0 where
  pub fair : ℕ
  pub is_fair : IsFairLength (loaded image) fair
  pub machine : MachineValue
  pub schedule : List Step
  pub end : MadeEnd
  pub made : IsMade (rule_of_seed run.seed fair) (loaded image) machine most schedule end
  pub kind : IsJudgedKind machine.image required.ends.items machine.world run.end.judgement.kind
  pub missed : run.end.judgement.missed ≡ position (λ x. not (is_met machine.world x)) required.ends.items
  pub trapped : IsFalse run.end.judgement.is_trapped ↔ AreTrapsExpected required.ends.items machine.world
  pub state : IsEndState machine run.end.state

-- The run of a seed is the first of all seeds that is not right, it ends as it is shown, and the verdict is that of what is
-- wrong with it.
pub record IsShownByRun (image : ImageValue) (required : Requirements) (seeds : Seeds) (kind : VerdictKind)
    (run : ShownRun) : Type 0 where
  pub first : AreJudged image required.ends.items required.claims.items seeds
      (Some (record { seed = run.seed; flaw = run.flaw }))
  pub end : EndsAsShown image required seeds.most run
  pub verdict : kind ≡ kind_of_run run.flaw

-- how far a search is asked to go, whatever memory it may take: the most worlds, and the most seconds
pub record SearchLimits : Type 0 where
  pub worlds : ℕ
  pub seconds : Option ℕ

abbrev pub limits_of : Option Bounds → Option SearchLimits
limits_of None = None
limits_of (Some bounds) = Some (record { worlds = bounds.worlds; seconds = bounds.seconds })

-- A search among all schedules of a program, with these limits, came to this.
pub record IsFoundWithin (limits : SearchLimits) (image : ImageValue) (required : Requirements) (found : Explored)
    : Type 0 where
  pub search : ProgramSearch
  pub asked : search.required.now ≡ required
  pub begin : search.begin.now ≡ []
  pub worlds : search.bounds.worlds ≡ limits.worlds
  pub seconds : search.bounds.seconds ≡ limits.seconds
  pub explored : IsExplored image search found

-- the same, if a search was asked for
abbrev pub IsFound : Option SearchLimits → ImageValue → Requirements → Explored → Type 0
IsFound None image required found = ⊥
IsFound (Some limits) image required found = IsFoundWithin limits image required found

-- An end that a search found is the first to show the worst flaw that any of its ends shows, and the verdict is that of this
-- flaw.
pub record IsShownByEnd (limits : Option SearchLimits) (image : ImageValue) (required : Requirements)
    (ends : List SpaceEnd) (kind : VerdictKind) (place : ℕ) : Type 0 where
  pub found : Explored
  pub search : IsFound limits image required found
  pub listed : found.ends.items ≡ ends
  pub flaw : EndFlaw
  pub first : IsWorstFlaw ends flaw place
  pub verdict : kind ≡ kind_of_end flaw

-- A complete search found no world that shows a claim, which has to hold of one at least.
pub record IsUnshownBySchedules (limits : Option SearchLimits) (image : ImageValue) (required : Requirements)
    (kind : VerdictKind) (claim : ℕ) : Type 0 where
  pub found : Explored
  pub search : IsFound limits image required found
  pub complete : IsTrue found.is_complete
  pub unshown : found.unshown ≡ Some claim
  pub verdict : kind ≡ verdict.Wrong

-- A search shows this stream first of those that can wait forever, which it is required that none can: the schedule leads to
-- a round in which the stream starves, and no other one leads there in fewer steps.
pub record IsStarvedBySchedules (limits : Option SearchLimits) (image : ImageValue) (required : Requirements)
    (kind : VerdictKind) (x : Starving) : Type 0 where
  pub found : Explored
  pub search : IsFound limits image required found
  pub first : IsFirstStarving (starving_in found.waits) x
  pub asked : IsSome required.never_starved
  pub shown : IsShown image [] required.rests.items x
  pub verdict : kind ≡ verdict.Wrong

-- A search shows this run first that evades a condition, by a shortest schedule to where it begins to.
pub record IsEvadedBySchedules (limits : Option SearchLimits) (image : ImageValue) (required : Requirements)
    (kind : VerdictKind) (e : Evasion) : Type 0 where
  pub found : Explored
  pub search : IsFound limits image required found
  pub first : IsFirstEvasion 0 (answers_in found.kept) e
  pub asked : RunCondition
  pub which : slice_get required.run_conditions.items e.place ≡ Some asked
  pub shown : evaded.IsShown image [] required.rests.items asked e.run
  pub verdict : kind ≡ verdict.Wrong

-- A search found nothing against a program, and not either that it is right.
pub record IsLeftOpen (limits : Option SearchLimits) (image : ImageValue) (required : Requirements) : Type 0 where
  pub found : Explored
  pub search : IsFound limits image required found
  pub flawless : ShowNothing found.ends.items
  pub shown : (unkept_in found).unshown ≡ None
  pub unstarved : starving_in found.waits ≡ []
  pub unevaded : list_any is_evaded (answers_in found.kept) ≡ false
  pub not_right : IsFalse found.is_right

-- The program of an image breaks a rule, the first of those that are required.
pub record IsShownByRule (image : ImageValue) (required : Requirements) (kind : VerdictKind) (rule : ℕ) : Type 0 where
  pub first : position (λ r. not (is_kept image r)) required.rules.items ≡ Some rule
  pub verdict : kind ≡ verdict.Wrong

-- The runs of all seeds are right, and show each claim before this one, which none shows.
pub record IsUnshownByRuns (image : ImageValue) (required : Requirements) (seeds : Seeds) (kind : VerdictKind)
    (claim : ℕ) : Type 0 where
  pub unshown : IsUnshownBySeeds image required.claims.items seeds claim
  pub verdict : kind ≡ verdict.NotDecided

-- The run of a seed is the first of all seeds that does not meet the lines about who does the work, and the verdict is by how
-- that run ends.
pub record IsShownByWork (image : ImageValue) (required : Requirements) (seeds : Seeds) (kind : VerdictKind)
    (missed : MissedWork) : Type 0 where
  pub first : IsWorkJudged image required.work.items seeds (Some missed)
  pub verdict : kind ≡ kind_of_work missed.end

-- The runs of all seeds are right and show each claim, and it is required that no stream loops alone, which no run shows.
pub record IsBeyondRuns (image : ImageValue) (required : Requirements) (seeds : Seeds) (kind : VerdictKind) : Type 0 where
  pub judged : AreJudged image required.ends.items required.claims.items seeds None
  pub shown : AreShownBySeeds image required.claims.items seeds
  pub asked : IsSome required.never_busy
  pub verdict : kind ≡ verdict.NotDecided

-- The same where it is required that nobody can wait forever, which no run shows.
pub record IsBeyondRunsOfWaits (image : ImageValue) (required : Requirements) (seeds : Seeds) (kind : VerdictKind)
    : Type 0 where
  pub judged : AreJudged image required.ends.items required.claims.items seeds None
  pub shown : AreShownBySeeds image required.claims.items seeds
  pub asked : IsSome required.never_starved
  pub verdict : kind ≡ verdict.NotDecided

-- The same where all runs are to keep some condition, which seeds do not decide.
pub record IsBeyondRunsOfConditions (image : ImageValue) (required : Requirements) (seeds : Seeds) (kind : VerdictKind)
    : Type 0 where
  pub judged : AreJudged image required.ends.items required.claims.items seeds None
  pub shown : AreShownBySeeds image required.claims.items seeds
  pub asked : IsTrue (asks_conditions required)
  pub verdict : kind ≡ verdict.NotDecided

-- it is a verdict by what was looked at alone: right, or left open by a search
abbrev pub IsLooked : Option SearchLimits → ImageValue → Requirements → VerdictKind → Type 0
IsLooked limits image required kind =
    (kind ≡ verdict.Right) ⊎ ((kind ≡ verdict.NotDecided) × IsLeftOpen limits image required)

-- a program, what is required of it, how far it is searched, if it is, and the seeds that are tried
pub record JudgedAs : Type 0 where
  pub image : ImageValue
  pub required : Requirements
  pub limits : Option SearchLimits
  pub seeds : Seeds

-- what decides a verdict on a program
abbrev pub IsShownFor : JudgedAs → List SpaceEnd → VerdictKind → Reason → Type 0
IsShownFor p ends kind reason.Looked = IsLooked p.limits p.image p.required kind
IsShownFor p ends kind (reason.Run run) = IsShownByRun p.image p.required p.seeds kind run
IsShownFor p ends kind (reason.End place) = IsShownByEnd p.limits p.image p.required ends kind place
IsShownFor p ends kind (reason.NoSchedule claim) = IsUnshownBySchedules p.limits p.image p.required kind claim
IsShownFor p ends kind (reason.Starved x) = IsStarvedBySchedules p.limits p.image p.required kind x
IsShownFor p ends kind (reason.Evaded e) = IsEvadedBySchedules p.limits p.image p.required kind e
IsShownFor p ends kind (reason.NoRun claim) = IsUnshownByRuns p.image p.required p.seeds kind claim
IsShownFor p ends kind reason.NoRunCan = IsBeyondRuns p.image p.required p.seeds kind
IsShownFor p ends kind reason.OpenWaits = IsBeyondRunsOfWaits p.image p.required p.seeds kind
IsShownFor p ends kind reason.OpenConditions = IsBeyondRunsOfConditions p.image p.required p.seeds kind
IsShownFor p ends kind (reason.Rule rule) = IsShownByRule p.image p.required kind rule
IsShownFor p ends kind (reason.Work missed) = IsShownByWork p.image p.required p.seeds kind missed
IsShownFor p ends kind (reason.Absent number fault) = ⊥
IsShownFor p ends kind (reason.Lacking name) = ⊥
IsShownFor p ends kind (reason.NotGiven number) = ⊥

-- a program that is looked at by a search with these bounds, if there are some, and by the seeds that are asked for
abbrev pub judged_within : Option Bounds → AskedJudging → ImageValue → Requirements → JudgedAs
judged_within explored asked image required =
    record { image = image; required = required; limits = limits_of explored; seeds = seeds_of asked }

-- a program as it is asked to be looked at
abbrev pub judged_as : AskedJudging → ImageValue → Requirements → JudgedAs
judged_as asked image required = judged_within asked.explored asked image required

-- what is known of a search: that one was made within these limits, by which the verdict is decided, if it comes with one; and
-- else that none was
abbrev pub IsSearchKnown : Bool → JudgedAs → List SpaceEnd → VerdictKind → Reason → Option Explored → Type 0
IsSearchKnown comes p ends kind why None = IsFalse comes
IsSearchKnown comes p ends kind why (Some found) =
    IsTrue comes × IsFound p.limits p.image p.required found × HasDecided found ends kind why

-- whether the seeds run before a search of a program that is judged so, or in its place
abbrev pub begins_with_seeds : JudgedAs → Bool → Bool
begins_with_seeds p thorough = not (is_some p.limits) || thorough

-- What is known of a program says what was run for the verdict: which search of it, and how many seeds. They come before the
-- search where it is `thorough`, and show who does the work where that `works`.
pub record IsWhatWasRun (p : JudgedAs) (thorough works : Bool) (known : Known) (ends : List SpaceEnd) (kind : VerdictKind)
    (why : Reason) : Type 0 where
  pub search : Option Explored
  pub tried : Option ℕ
  pub said : known ≡ known_by search tried
  pub searched : IsSearchKnown (comes_with_search (is_some p.limits) thorough why) p ends kind why search
  pub seeds : AreSeedsKnown (comes_with_seeds (begins_with_seeds p thorough) works kind why) p.image p.required p.seeds why
      tried

abbrev pub IsRunFor : JudgedAs → Bool → Bool → CaseJudgement → Type 0
IsRunFor p thorough works j = IsWhatWasRun p thorough works j.known j.ends.items j.kind j.reason

-- What is known is what a search within these limits came to.
pub record IsOfSearch (limits : Option SearchLimits) (image : ImageValue) (required : Requirements) (j : CaseJudgement)
    : Type 0 where
  pub found : Explored
  pub search : IsFound limits image required found
  pub by_it : IsKnownBySearch found j

abbrev pub IsShownBy : JudgedAs → CaseJudgement → Type 0
IsShownBy p j = IsShownFor p j.ends.items j.kind j.reason

-- the same by the runs of seeds alone, whatever search is asked for
abbrev pub IsShownWithoutSearch : AskedJudging → ImageValue → Requirements → CaseJudgement → Type 0
IsShownWithoutSearch asked image required j =
    (explored : Option Bounds) → IsShownBy (judged_within explored asked image required) j

-- the same by a search with these bounds alone, whatever the seeds are
abbrev pub IsShownWithin : Bounds → ImageValue → Requirements → CaseJudgement → Type 0
IsShownWithin bounds image required j =
    (asked : AskedJudging) → IsShownBy (judged_within (Some bounds) asked image required) j

-- What is known of a submission of this image and text by a case that speaks of what the submission has.
pub record IsReadCase (asked : AskedJudging) (image : ImageValue) (text : List ℕ) (case : Case) (j : CaseJudgement)
    : Type 0 where
  pub required : Requirements
  pub said : said_by case (program_by image text case) text ≡ Ok (requirements_seen required)
  pub shown : IsShownBy (judged_as asked (program_by image text case) required) j
  pub run : IsRunFor (judged_as asked (program_by image text case) required) asked.is_thorough (has_work required) j

-- The case speaks of something that the submission lacks: nothing is known against the submission.
pub record IsAbsent (image : ImageValue) (text : List ℕ) (case : Case) (j : CaseJudgement) : Type 0 where
  pub number : ℕ
  pub fault : LineFault
  pub reason : j.reason ≡ reason.Absent number fault
  pub said : said_by case (program_by image text case) text ≡ Err (file.Line number fault)
  pub of_program : IsTrue (may_be_of_program fault.kind)
  pub kind : j.kind ≡ verdict.NotJudged
  pub unrun : j.known ≡ known_by None None

-- what a submission is that lacks a name of a case's words: refused, where the names are asked for
abbrev pub kind_without_name : Bool → VerdictKind
kind_without_name asked = if asked then verdict.SourceFault else verdict.NotJudged

-- The submission lacks the words of a name of the case's cells, the first such name: nothing of it runs.
pub record IsLacking (asked : AskedJudging) (text : List ℕ) (case : Case) (j : CaseJudgement) : Type 0 where
  pub name : ℕ
  pub reason : j.reason ≡ reason.Lacking name
  pub first : name_lacking asked.needs_names case.given.items text ≡ Some name
  pub kind : j.kind ≡ kind_without_name asked.needs_names
  pub unrun : j.known ≡ known_by None None

-- A line of the case speaks of a word that the case does not give, or that stands elsewhere in the submission: nothing is
-- known against the program that the case makes of it.
pub record IsNotGivenBy (image : ImageValue) (text : List ℕ) (case : Case) (required : Requirements) (j : CaseJudgement)
    : Type 0 where
  pub number : ℕ
  pub reason : j.reason ≡ reason.NotGiven number
  pub kind : j.kind ≡ verdict.NotJudged
  pub unrun : j.known ≡ known_by None None
  pub other : SpeaksOfOthersIn image text case case.cells required

-- The same of a submission of this image.
pub record IsNotGiven (image : ImageValue) (text : List ℕ) (case : Case) (j : CaseJudgement) : Type 0 where
  pub required : Requirements
  pub said : said_by case (program_by image text case) text ≡ Ok (requirements_seen required)
  pub given : IsNotGivenBy (program_by image text case) text case required j

-- why a submission is not judged by a case
abbrev pub IsUnjudged : AskedJudging → ImageValue → List ℕ → Case → CaseJudgement → Type 0
IsUnjudged asked image text case j =
    IsAbsent image text case j ⊎ (IsLacking asked text case j ⊎ IsNotGiven image text case j)

-- What is known of a submission by a case: right is so, and what is not right is shown.
pub record IsCaseKnown (asked : AskedJudging) (image : ImageValue) (text : List ℕ) (case : Case) (j : CaseJudgement)
    : Type 0 where
  pub right : j.kind ≡ verdict.Right → IsRightCase asked image text case
  pub shown : IsReadCase asked image text case j ⊎ IsUnjudged asked image text case j

-- The same, with a status that is as bad as the verdict.
pub record IsCaseJudged (asked : AskedJudging) (image : ImageValue) (text : List ℕ) (case : Case) (j : CaseJudgement)
    : Type 0 where
  pub known : IsCaseKnown asked image text case j
  pub status : IsAsBadAsKind j
  pub exact : IsStatusByRuns asked j
