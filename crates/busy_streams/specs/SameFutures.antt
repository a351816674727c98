-- Definitions of same_futures that callers name, passed on.
pub use Rattle.schedule_space.specs.SameFutures.Agreeing
pub use Rattle.schedule_space.specs.SameFutures.Handlers
pub use Rattle.schedule_space.specs.SameFutures.Links
