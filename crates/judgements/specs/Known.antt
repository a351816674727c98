-- What was run to come to a verdict.
use Rattle.std.specs.Prelude.{◌≡◌, ◌<◌, ◌+◌, ◌-◌, ◌^◌, min, max, ◌⊎◌, ⊤, ℕ, Bool, true, false, not, ◌&&◌, ◌||◌, ◌==◌, IsTrue, IsFalse, List, Option, Some, None, length}
use Rattle.image_file.specs.ImageValue.{ImageValue}
use Rattle.expectation_files.specs.declared.requirements.Requirements.{Requirements}
use Rattle.program_searches.specs.Waits.{starving_in}
use Rattle.program_searches.specs.declared.explored.Explored.{Explored}
use Rattle.seed_outcomes.specs.SeedVerdicts.Seeds.{AreJudged}
use Rattle.seed_outcomes.specs.SeedVerdictsTypes.Seeds.{Seeds}
use Rattle.seed_outcomes.specs.SpaceEndsTypes.SpaceEnd.{SpaceEnd}
use Rattle.seed_work.specs.SeedWork.{IsWorkJudged}
use Rattle.judgements.specs.Starved.{IsFirstStarving}
use Rattle.judgements.specs.Evaded.{IsFirstEvasion, answers_in}
use Rattle.judgements.specs.declared.case_judgements.CaseJudgement.{CaseJudgement}
use Rattle.judgements.specs.declared.case_judgements.Reason.{Reason}
use Rattle.judgements.specs.declared.case_judgements.Reason.TheVariants as reason
use Rattle.judgements.specs.declared.case_judgements.ShownRun.{ShownRun}
use Rattle.judgements.specs.declared.knowledge.Known.{Known}
use Rattle.judgements.specs.declared.verdict_kinds.VerdictKind.{VerdictKind}
use Rattle.judgements.specs.declared.verdict_kinds.VerdictKind.TheVariants as verdict

-- how many states a search found: the one with which it begins, and one for each link of its space
abbrev pub states_in : Explored → ℕ
states_in found = length found.space.links + 1

-- what is known by a search that came to this, where one was made, and by the runs of so many seeds, where some were tried:
-- that it is of every schedule says a complete search alone, and seeds never do
abbrev pub known_by : Option Explored → Option ℕ → Known
known_by None seeds = record { worlds = None; is_every = false; bound = None; seeds = seeds }
known_by (Some found) seeds = record {
  worlds = Some (states_in found);
  is_every = found.is_complete;
  bound = found.bound;
  seeds = seeds;
}

abbrev pub is_right_kind : VerdictKind → Bool
is_right_kind verdict.NotRead = false
is_right_kind verdict.SourceFault = false
is_right_kind verdict.Trap = false
is_right_kind verdict.Deadlock = false
is_right_kind verdict.Wrong = false
is_right_kind verdict.RanOutOfSteps = false
is_right_kind verdict.Spins = false
is_right_kind verdict.NotJudged = false
is_right_kind verdict.NotDecided = false
is_right_kind verdict.Right = true

abbrev pub is_undecided : VerdictKind → Bool
is_undecided verdict.NotRead = false
is_undecided verdict.SourceFault = false
is_undecided verdict.Trap = false
is_undecided verdict.Deadlock = false
is_undecided verdict.Wrong = false
is_undecided verdict.RanOutOfSteps = false
is_undecided verdict.Spins = false
is_undecided verdict.NotJudged = false
is_undecided verdict.NotDecided = true
is_undecided verdict.Right = false

-- whether a verdict by seeds leaves open what every schedule does
abbrev pub is_open : VerdictKind → Bool
is_open kind = is_right_kind kind || is_undecided kind

-- whether lines ask who does the work
abbrev pub has_work : Requirements → Bool
has_work required = not (length required.work.items == 0)

-- Whether a verdict for this reason comes with a search: always where one is asked for, but if the program breaks a rule, or
-- if the runs of the seeds come before it, where that is asked for as well, and one of them decides.
abbrev pub comes_with_search : Bool → Bool → Reason → Bool
comes_with_search searches first reason.Looked = searches
comes_with_search searches first (reason.Run run) = not first && searches
comes_with_search searches first (reason.End place) = searches
comes_with_search searches first (reason.NoSchedule claim) = searches
comes_with_search searches first (reason.Starved x) = searches
comes_with_search searches first (reason.Evaded e) = searches
comes_with_search searches first (reason.NoRun claim) = searches
comes_with_search searches first reason.NoRunCan = searches
comes_with_search searches first reason.OpenWaits = searches
comes_with_search searches first reason.OpenConditions = searches
comes_with_search searches first (reason.Rule rule) = false
comes_with_search searches first (reason.Work missed) = searches
comes_with_search searches first (reason.Absent number fault) = false
comes_with_search searches first (reason.Lacking name) = false
comes_with_search searches first (reason.NotGiven number) = false

-- Whether a verdict of this kind comes with seeds: where they run before a search or in its place; where a search does not
-- decide; where they decide; and where they show who does the work, if lines ask for that.
abbrev pub comes_with_seeds : Bool → Bool → VerdictKind → Reason → Bool
comes_with_seeds first works kind reason.Looked = first || (is_undecided kind || works)
comes_with_seeds first works kind (reason.Run run) = true
comes_with_seeds first works kind (reason.End place) = first
comes_with_seeds first works kind (reason.NoSchedule claim) = first
comes_with_seeds first works kind (reason.Starved x) = first
comes_with_seeds first works kind (reason.Evaded e) = first
comes_with_seeds first works kind (reason.NoRun claim) = true
comes_with_seeds first works kind reason.NoRunCan = true
comes_with_seeds first works kind reason.OpenWaits = true
comes_with_seeds first works kind reason.OpenConditions = true
comes_with_seeds first works kind (reason.Rule rule) = false
comes_with_seeds first works kind (reason.Work missed) = true
comes_with_seeds first works kind (reason.Absent number fault) = false
comes_with_seeds first works kind (reason.Lacking name) = false
comes_with_seeds first works kind (reason.NotGiven number) = false

-- what a search came to by which a verdict of this kind is decided: it lists these ends, is complete, shows this stream first
-- that can wait forever, or this run first that evades a condition, or says right
abbrev pub HasDecided : Explored → List SpaceEnd → VerdictKind → Reason → Type 0
HasDecided found ends kind reason.Looked = kind ≡ verdict.Right → IsTrue found.is_right
HasDecided found ends kind (reason.Run run) = ⊤
HasDecided found ends kind (reason.End place) = found.ends.items ≡ ends
HasDecided found ends kind (reason.NoSchedule claim) = IsTrue found.is_complete
HasDecided found ends kind (reason.Starved x) = IsFirstStarving (starving_in found.waits) x
HasDecided found ends kind (reason.Evaded e) = IsFirstEvasion 0 (answers_in found.kept) e
HasDecided found ends kind (reason.NoRun claim) = ⊤
HasDecided found ends kind reason.NoRunCan = ⊤
HasDecided found ends kind reason.OpenWaits = ⊤
HasDecided found ends kind reason.OpenConditions = ⊤
HasDecided found ends kind (reason.Rule rule) = ⊤
HasDecided found ends kind (reason.Work missed) = ⊤
HasDecided found ends kind (reason.Absent number fault) = ⊤
HasDecided found ends kind (reason.Lacking name) = ⊤
HasDecided found ends kind (reason.NotGiven number) = ⊤

-- The runs of all seeds were made: each is right, or each meets the lines about who does the work.
abbrev pub AreAllRun : ImageValue → Requirements → Seeds → Type 0
AreAllRun image required seeds =
    AreJudged image required.ends.items required.claims.items seeds None
    ⊎ ((0 < length required.work.items) × IsWorkJudged image required.work.items seeds None)

-- So many seeds were tried: those up to the one whose run decides, or else all.
abbrev pub AreTried : ImageValue → Requirements → Seeds → Reason → ℕ → Type 0
AreTried image required seeds reason.Looked n = (n ≡ seeds.count) × AreAllRun image required seeds
AreTried image required seeds (reason.Run run) n = n ≡ run.seed + 1
AreTried image required seeds (reason.End place) n = (n ≡ seeds.count) × AreAllRun image required seeds
AreTried image required seeds (reason.NoSchedule claim) n = (n ≡ seeds.count) × AreAllRun image required seeds
AreTried image required seeds (reason.Starved x) n = (n ≡ seeds.count) × AreAllRun image required seeds
AreTried image required seeds (reason.Evaded e) n = (n ≡ seeds.count) × AreAllRun image required seeds
AreTried image required seeds (reason.NoRun claim) n = (n ≡ seeds.count) × AreAllRun image required seeds
AreTried image required seeds reason.NoRunCan n = (n ≡ seeds.count) × AreAllRun image required seeds
AreTried image required seeds reason.OpenWaits n = (n ≡ seeds.count) × AreAllRun image required seeds
AreTried image required seeds reason.OpenConditions n = (n ≡ seeds.count) × AreAllRun image required seeds
AreTried image required seeds (reason.Rule rule) n = ⊥
AreTried image required seeds (reason.Work missed) n = n ≡ missed.seed + 1
AreTried image required seeds (reason.Absent number fault) n = ⊥
AreTried image required seeds (reason.Lacking name) n = ⊥
AreTried image required seeds (reason.NotGiven number) n = ⊥

-- what is known of seeds: that so many were tried, if the verdict comes with seeds, and else that none was
abbrev pub AreSeedsKnown : Bool → ImageValue → Requirements → Seeds → Reason → Option ℕ → Type 0
AreSeedsKnown comes image required seeds why None = IsFalse comes
AreSeedsKnown comes image required seeds why (Some n) = IsTrue comes × AreTried image required seeds why n

-- whether a verdict is by all that was looked at, or by what no run shows
abbrev pub is_by_all_runs : Reason → Bool
is_by_all_runs reason.Looked = true
is_by_all_runs (reason.Run run) = false
is_by_all_runs (reason.End place) = false
is_by_all_runs (reason.NoSchedule claim) = false
is_by_all_runs (reason.Starved x) = false
is_by_all_runs (reason.Evaded e) = false
is_by_all_runs (reason.NoRun claim) = true
is_by_all_runs reason.NoRunCan = true
is_by_all_runs reason.OpenWaits = true
is_by_all_runs reason.OpenConditions = true
is_by_all_runs (reason.Rule rule) = false
is_by_all_runs (reason.Work missed) = false
is_by_all_runs (reason.Absent number fault) = false
is_by_all_runs (reason.Lacking name) = false
is_by_all_runs (reason.NotGiven number) = false

-- What is known by the runs of seeds alone.
pub data IsKnownByRuns (image : ImageValue) (required : Requirements) (seeds : Seeds) (j : CaseJudgement) : Type 0 where
  -- that of one decides, and those before it were made
  by_one : (run : ShownRun) → j.reason ≡ reason.Run run → j.known ≡ known_by None (Some (run.seed + 1))
      → is_open j.kind ≡ false → IsKnownByRuns image required seeds j
  -- those of all were made, and are right
  by_all : is_by_all_runs j.reason ≡ true → j.known ≡ known_by None (Some seeds.count) → is_open j.kind ≡ true
      → AreJudged image required.ends.items required.claims.items seeds None → IsKnownByRuns image required seeds j

-- whether a verdict is by all that was looked at, or by what a search found
abbrev pub is_by_search : Reason → Bool
is_by_search reason.Looked = true
is_by_search (reason.Run run) = false
is_by_search (reason.End place) = true
is_by_search (reason.NoSchedule claim) = true
is_by_search (reason.Starved x) = true
is_by_search (reason.Evaded e) = true
is_by_search (reason.NoRun claim) = false
is_by_search reason.NoRunCan = false
is_by_search reason.OpenWaits = false
is_by_search reason.OpenConditions = false
is_by_search (reason.Rule rule) = false
is_by_search (reason.Work missed) = false
is_by_search (reason.Absent number fault) = false
is_by_search (reason.Lacking name) = false
is_by_search (reason.NotGiven number) = false

-- the same by a search alone, which came to this
pub record IsKnownBySearch (found : Explored) (j : CaseJudgement) : Type 0 where
  pub known : j.known ≡ known_by (Some found) None
  pub reason : is_by_search j.reason ≡ true
  pub decided : HasDecided found j.ends.items j.kind j.reason

-- of numbers of states that two searches found, where there were two, the sum, as far as 64 bits can hold it
abbrev pub sum_of : Option ℕ → Option ℕ → Option ℕ
sum_of None other = other
sum_of (Some one) None = Some one
sum_of (Some one) (Some other) = Some (min (one + other) (2 ^ 64 - 1))

-- of numbers of seeds the greater
abbrev pub most_of : Option ℕ → Option ℕ → Option ℕ
most_of None other = other
most_of (Some one) None = Some one
most_of (Some one) (Some other) = Some (max one other)

-- what is known by two cases together: the states of both, of every schedule only where each is, and the seeds of the one that
-- tried more
abbrev pub together : Known → Known → Known
together one other = record {
  worlds = sum_of one.worlds other.worlds;
  is_every = one.is_every && other.is_every;
  bound = None;
  seeds = most_of one.seeds other.seeds;
}
