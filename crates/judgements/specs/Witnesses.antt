-- What shows that a submission is not right.
use Rattle.std.specs.Prelude.{ℕ, List, Option, Some, None, slice_get}
use Rattle.processor.specs.declared.steps.Step.{Step}
use Rattle.seed_outcomes.specs.SpaceEndsTypes.SpaceEnd.{SpaceEnd}
use Rattle.judgements.specs.declared.case_judgements.Reason.{Reason}
use Rattle.judgements.specs.declared.case_judgements.Reason.TheVariants as reason
use Rattle.judgements.specs.declared.case_judgements.Witness.{Witness}
use Rattle.judgements.specs.declared.case_judgements.Witness.TheVariants as witness

-- the seed that a witness names
abbrev pub seed_in : Witness → Option ℕ
seed_in witness.None = None
seed_in (witness.Seed seed) = Some seed
seed_in (witness.Schedule steps) = None

-- the schedule that a witness shows
abbrev pub schedule_in : Witness → Option (List Step)
schedule_in witness.None = None
schedule_in (witness.Seed seed) = None
schedule_in (witness.Schedule steps) = Some steps.items

-- the seed whose run decides
abbrev pub seed_of : Reason → Option ℕ
seed_of reason.Looked = None
seed_of (reason.Run run) = Some run.seed
seed_of (reason.End place) = None
seed_of (reason.NoSchedule claim) = None
seed_of (reason.Starved x) = None
seed_of (reason.Evaded e) = None
seed_of (reason.NoRun claim) = None
seed_of reason.NoRunCan = None
seed_of reason.OpenWaits = None
seed_of reason.OpenConditions = None
seed_of (reason.Rule rule) = None
seed_of (reason.Work missed) = Some missed.seed
seed_of (reason.Absent number fault) = None
seed_of (reason.Lacking name) = None
seed_of (reason.NotGiven number) = None

abbrev pub schedule_to : Option SpaceEnd → Option (List Step)
schedule_to None = None
schedule_to (Some end) = Some end.schedule.items

-- the schedule that leads to what decides: to an end of these, to the round of a stream that can wait forever, or to where a
-- run begins to evade a condition
abbrev pub schedule_of : List SpaceEnd → Reason → Option (List Step)
schedule_of ends reason.Looked = None
schedule_of ends (reason.Run run) = None
schedule_of ends (reason.End place) = schedule_to (slice_get ends place)
schedule_of ends (reason.NoSchedule claim) = None
schedule_of ends (reason.Starved x) = Some x.stem.items
schedule_of ends (reason.Evaded e) = Some e.run.stem.items
schedule_of ends (reason.NoRun claim) = None
schedule_of ends reason.NoRunCan = None
schedule_of ends reason.OpenWaits = None
schedule_of ends reason.OpenConditions = None
schedule_of ends (reason.Rule rule) = None
schedule_of ends (reason.Work missed) = None
schedule_of ends (reason.Absent number fault) = None
schedule_of ends (reason.Lacking name) = None
schedule_of ends (reason.NotGiven number) = None
