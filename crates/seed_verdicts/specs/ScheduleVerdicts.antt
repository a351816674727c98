-- Definitions of schedule_verdicts that callers name, passed on.
pub use Rattle.schedule_verdicts.specs.ClaimMarks
pub use Rattle.schedule_verdicts.specs.KeptClaims
pub use Rattle.schedule_verdicts.specs.NamedRegisters
pub use Rattle.schedule_verdicts.specs.RightEnds
pub use Rattle.schedule_verdicts.specs.RightSpaces
pub use Rattle.schedule_verdicts.specs.ShownClaims
