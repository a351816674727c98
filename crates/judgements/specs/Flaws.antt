-- What ends and runs show against a submission.
use Rattle.std.specs.Prelude.{◌≡◌, ℕ, ◌<◌, ◌&&◌, not, Bool, true, false, List, Some, is_some, slice_get}
use Rattle.end_kinds.specs.declared.kinds.EndKind.{EndKind}
use Rattle.end_kinds.specs.declared.kinds.EndKind.TheVariants as kind
use Rattle.schedule_makers.specs.declared.made.MadeEnd.{MadeEnd}
use Rattle.schedule_makers.specs.declared.made.MadeEnd.TheVariants as made_end
use Rattle.seed_outcomes.specs.SpaceEndsTypes.SpaceEnd.{SpaceEnd}
use Rattle.seed_outcomes.specs.SpaceEndsTypes.SpaceEndKind.{SpaceEndKind}
use Rattle.seed_outcomes.specs.SpaceEndsTypes.SpaceEndKind.TheVariants as space_end
use Rattle.seed_outcomes.specs.SeedVerdictsTypes.RunFlaw.{RunFlaw}
use Rattle.seed_outcomes.specs.SeedVerdictsTypes.RunFlaw.TheVariants as run_flaw
use Rattle.judgements.specs.declared.end_flaws.EndFlaw.{EndFlaw}
use Rattle.judgements.specs.declared.end_flaws.EndFlaw.TheVariants as flaw
use Rattle.judgements.specs.declared.verdict_kinds.VerdictKind.{VerdictKind}
use Rattle.judgements.specs.declared.verdict_kinds.VerdictKind.TheVariants as verdict

-- what a submission is whose run has a flaw
abbrev pub kind_of_run : RunFlaw → VerdictKind
kind_of_run run_flaw.Trap = verdict.Trap
kind_of_run run_flaw.Deadlock = verdict.Deadlock
kind_of_run (run_flaw.Missed expectation) = verdict.Wrong
kind_of_run (run_flaw.Broken taken claim) = verdict.Wrong
kind_of_run run_flaw.OutOfSteps = verdict.RanOutOfSteps

-- what a submission is whose run ends so, and does not meet a line about who does the work
abbrev pub kind_of_work : MadeEnd → VerdictKind
kind_of_work made_end.NobodyRuns = verdict.Wrong
kind_of_work made_end.Standstill = verdict.Wrong
kind_of_work made_end.OutOfSteps = verdict.RanOutOfSteps

-- what a submission is of which an end of all schedules shows a flaw
abbrev pub kind_of_end : EndFlaw → VerdictKind
kind_of_end flaw.Trap = verdict.Trap
kind_of_end flaw.Deadlock = verdict.Deadlock
kind_of_end flaw.Wrong = verdict.Wrong
kind_of_end flaw.Broken = verdict.Wrong
kind_of_end flaw.Spinning = verdict.Spins

abbrev pub is_deadlock_kind : EndKind → Bool
is_deadlock_kind kind.Finished = false
is_deadlock_kind kind.Stopped = false
is_deadlock_kind kind.Deadlock = true
is_deadlock_kind kind.Waiting = false
is_deadlock_kind kind.Spinning = false
is_deadlock_kind kind.Looping = false
is_deadlock_kind kind.OutOfSteps = false

abbrev pub is_spinning_kind : EndKind → Bool
is_spinning_kind kind.Finished = false
is_spinning_kind kind.Stopped = false
is_spinning_kind kind.Deadlock = false
is_spinning_kind kind.Waiting = false
is_spinning_kind kind.Spinning = true
is_spinning_kind kind.Looping = false
is_spinning_kind kind.OutOfSteps = false

abbrev pub is_deadlock : SpaceEndKind → Bool
is_deadlock (space_end.End k) = is_deadlock_kind k
is_deadlock (space_end.Broken claim) = false
is_deadlock space_end.Busy = false

abbrev pub is_spinning : SpaceEndKind → Bool
is_spinning (space_end.End k) = is_spinning_kind k
is_spinning (space_end.Broken claim) = false
is_spinning space_end.Busy = false

-- whether a claim does not hold of worlds, or a stream loops alone from one
abbrev pub is_broken : SpaceEndKind → Bool
is_broken (space_end.End k) = false
is_broken (space_end.Broken claim) = true
is_broken space_end.Busy = true

-- whether an end shows a flaw; of a set that spins it is not asked which expectation it misses
abbrev pub shows : EndFlaw → SpaceEnd → Bool
shows flaw.Trap end = end.is_trapped
shows flaw.Deadlock end = is_deadlock end.kind
shows flaw.Wrong end = is_some end.missed && not (is_spinning end.kind)
shows flaw.Broken end = is_broken end.kind
shows flaw.Spinning end = is_spinning end.kind

-- no end of a list shows a flaw
abbrev pub NoneShows : List SpaceEnd → EndFlaw → Type 0
NoneShows ends f = (k : ℕ) (end : SpaceEnd) → slice_get ends k ≡ Some end → shows f end ≡ false

-- none shows any
abbrev pub ShowNothing : List SpaceEnd → Type 0
ShowNothing ends = (f : EndFlaw) → NoneShows ends f

-- The end at this place of a list shows a flaw, and none before it does.
pub record IsFirstToShow (ends : List SpaceEnd) (f : EndFlaw) (place : ℕ) : Type 0 where
  pub end : SpaceEnd
  pub there : slice_get ends place ≡ Some end
  pub is_shown : shows f end ≡ true
  pub before : (k : ℕ) (other : SpaceEnd) → k < place → slice_get ends k ≡ Some other → shows f other ≡ false

-- the flaws in their order, the worst first: a trap, a deadlock, what is not as expected, a broken claim, a loop
abbrev pub flaw_rank : EndFlaw → ℕ
flaw_rank flaw.Trap = 0
flaw_rank flaw.Deadlock = 1
flaw_rank flaw.Wrong = 2
flaw_rank flaw.Broken = 3
flaw_rank flaw.Spinning = 4

-- This is the worst flaw that any end of a list shows, and the end at this place is the first that shows it.
pub record IsWorstFlaw (ends : List SpaceEnd) (f : EndFlaw) (place : ℕ) : Type 0 where
  pub first : IsFirstToShow ends f place
  pub worst : (worse : EndFlaw) → flaw_rank worse < flaw_rank f → NoneShows ends worse
