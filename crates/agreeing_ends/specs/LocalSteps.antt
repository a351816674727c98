-- Definitions of local_steps that callers name, passed on.
pub use Rattle.same_futures.specs.LocalSteps.EndingSteps
pub use Rattle.same_futures.specs.LocalSteps.FreeSteps
pub use Rattle.same_futures.specs.LocalSteps.LocalSteps
pub use Rattle.same_futures.specs.LocalSteps.SettledEndings
