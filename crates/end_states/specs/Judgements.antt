-- When the end of a run is as expected.
use Rattle.std.specs.Prelude.{Bool, true, false, not, ◌&&◌, ◌||◌, is_some, List}
use Rattle.image_file.specs.ImageValue.{ImageValue}
use Rattle.processor.specs.World.{World}
use Rattle.waiting.specs.Stuck.{IsStandstill}
use Rattle.end_kinds.specs.Ends.{IsKindOf}
use Rattle.end_kinds.specs.Statuses.{status_of}
use Rattle.end_kinds.specs.declared.kinds.EndKind.{EndKind}
use Rattle.end_kinds.specs.declared.kinds.EndKind.TheVariants as kind
use Rattle.end_kinds.specs.declared.statuses.Status.{Status}
use Rattle.expectations.specs.declared.expectation.Expectation.{Expectation}
use Rattle.schedule_verdicts.specs.RightEnds.{AreWaitsExpected}
use Rattle.end_states.specs.declared.judgements.EndJudgement.{EndJudgement}

-- The kind of an end beside what is expected, if no step follows: a world in which some stream runs and none can go on is a
-- deadlock, but where each stream that runs may wait where it stands.
abbrev pub IsJudgedKind : ImageValue → List Expectation → World → EndKind → Type 0
IsJudgedKind image expected w kind.Finished = IsKindOf image w kind.Finished
IsJudgedKind image expected w kind.Stopped = IsKindOf image w kind.Stopped
IsJudgedKind image expected w kind.Deadlock = IsStandstill image w × (¬ AreWaitsExpected expected w)
IsJudgedKind image expected w kind.Waiting = IsStandstill image w × AreWaitsExpected expected w
IsJudgedKind image expected w kind.Spinning = ⊥
IsJudgedKind image expected w kind.Looping = ⊥
IsJudgedKind image expected w kind.OutOfSteps = IsKindOf image w kind.OutOfSteps

-- whether ends of this kind are deadlocks
abbrev pub is_deadlock : EndKind → Bool
is_deadlock kind.Finished = false
is_deadlock kind.Stopped = false
is_deadlock kind.Deadlock = true
is_deadlock kind.Waiting = false
is_deadlock kind.Spinning = false
is_deadlock kind.Looping = false
is_deadlock kind.OutOfSteps = false

-- whether an expectation is missed, or a claim is broken
abbrev pub is_wrong : EndJudgement → Bool
is_wrong j = is_some j.missed || is_some j.broken

-- Whether an end is as expected: it is no deadlock, no expectation is missed, no claim is broken on the way, and each trap
-- that stopped a stream is expected.
abbrev pub is_expected : EndJudgement → Bool
is_expected j = not (is_deadlock j.kind) && not (is_wrong j) && not j.is_trapped

-- whether a claim is broken on the way, or a trap that is not expected stopped a stream
abbrev pub is_flawed : EndJudgement → Bool
is_flawed j = is_some j.broken || j.is_trapped

-- what an end means for the exit status: a claim that is broken on the way counts whatever the kind of the end
abbrev pub status_of_judged : EndJudgement → Status
status_of_judged j = status_of j.kind (is_some j.missed) (is_flawed j)
