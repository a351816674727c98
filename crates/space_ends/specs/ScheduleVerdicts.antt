-- Definitions of schedule_verdicts that callers name, passed on.
pub use Rattle.seed_verdicts.specs.ScheduleVerdicts.KeptClaims
pub use Rattle.seed_verdicts.specs.ScheduleVerdicts.NamedRegisters
pub use Rattle.seed_verdicts.specs.ScheduleVerdicts.RightEnds
pub use Rattle.seed_verdicts.specs.ScheduleVerdicts.RightSpaces
pub use Rattle.seed_verdicts.specs.ScheduleVerdicts.ShownClaims
