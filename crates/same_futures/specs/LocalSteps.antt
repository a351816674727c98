-- Definitions of local_steps that callers name, passed on.
pub use Rattle.local_steps.specs.EndingSteps
pub use Rattle.local_steps.specs.FreeSteps
pub use Rattle.local_steps.specs.LocalSteps
pub use Rattle.local_steps.specs.SettledEndings
